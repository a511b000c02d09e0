use Rattle.std.proofs.Common.{rules, ap, map, ◌∙◌}
use Rattle.std.specs.Prelude.{string_bytes}
use Rattle.std.proofs.lemmas.Fn.{filter_same}
use Rattle.mutest_engine.specs.SuiteFiles.{is_class_path}
use Rattle.mutest_engine.proofs.SuiteLaws.{filter_seen}
use Rattle.mutest_engine.proofs.suite.class_paths.Goals as goal

pub returns : goal.returns
returns c = ap (map string_bytes) (filter_same _ (λ path. is_class_path (string_bytes path)) _ (λ x b f' k. search rules) _ _ c.retain.ensures.filtered) ∙ filter_seen string_bytes is_class_path c.args.paths.items
