use Rattle.mutest_engine.specs.Steps.{IsRead}
use Rattle.std.proofs.Common.{◌≡◌, ◌+◌, ◌≤◌, map, drop}
use Rattle.std.specs.Prelude.{string_bytes, IfSome}
use Rattle.codec_rules.specs.Reading.{with_values}
use Rattle.mt_edge.specs.Files.{Files}
use Rattle.mutest_engine.specs.SuiteFiles.{read_from, bytes_in}
use Rattle.mutest_engine.proofs.suite.read_files.Given as goal

abbrev pub invariant-loop-path : goal.invariant-loop-path
invariant-loop-path g l = record {
  told : IfSome (g.T.Tree.holds l.initial.tree) (λ (files : Files). with_values l.files (read_from l.sum (map string_bytes (drop l.path-index l.paths)) files) ≡ read_from l.initial.sum (map string_bytes l.paths) files);
  tree : IsRead (g.T.Tree.holds l.initial.tree) (g.T.Tree.holds l.tree) (g.T.Tree.writing l.initial.tree) (g.T.Tree.writing l.tree) (g.T.Tree.reading l.initial.tree) (g.T.Tree.reading l.tree);
  few : l.sum ≤ 67108864;
  sum : l.sum ≡ l.initial.sum + bytes_in l.files;
}
