use Rattle.std.proofs.Common.{◌≡◌}
use Rattle.std.specs.Prelude.{All}
use Rattle.std.specs.Vec.Iter.{into_iter_items}
use Rattle.codec_rules.specs.Reading.{with_values}
use Rattle.mutest_engine.specs.SuiteFiles.{all_loaded, IsRead}
use Rattle.mutest_engine.proofs.suite.load_all.Given as goal

abbrev pub invariant-loop-file : goal.invariant-loop-file
invariant-loop-file l = record {
  told : with_values l.all (all_loaded (into_iter_items l.file-iterator)) ≡ all_loaded l.fn.files;
  form : All IsRead l.all;
}
