use Rattle.std.proofs.Common.{◌≡◌, ◌++◌, map}
use Rattle.std.specs.Vec.Iter.{into_iter_items}
use Rattle.mutest_engine.specs.Jobs.{failure_of}
use Rattle.mutest_engine.proofs.job.failures_of.Given as goal

abbrev pub invariant-loop-failure : goal.invariant-loop-failure
invariant-loop-failure l = l.all ++ map (failure_of l.tests) (into_iter_items l.failure-iterator) ≡ map (failure_of l.tests) l.fn.failed
