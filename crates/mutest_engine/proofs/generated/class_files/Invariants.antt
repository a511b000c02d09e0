use Rattle.std.proofs.Common.{◌≡◌, [], ◌++◌, map}
use Rattle.std.specs.Vec.Iter.{into_iter_items}
use Rattle.mutest_engine.specs.SuiteFiles.{file_at}
use Rattle.mutest_engine.proofs.generated.class_files.Given as goal

abbrev pub invariant-loop-bytes : goal.invariant-loop-bytes
invariant-loop-bytes l = l.all ++ map (file_at []) (into_iter_items l.bytes-iterator) ≡ map (file_at []) l.fn.files.items
