use Rattle.std.proofs.Common.{◌≡◌, ◌<◌, ◌^◌, take, zip}
use Rattle.std.specs.Io.Iter.{u64_saturate}
use Rattle.suite_runs.specs.Covering.{count_all}
use Rattle.suite_runs.proofs.covering.cell_count.Given as goal

abbrev pub invariant-loop-at : goal.invariant-loop-at
invariant-loop-at l = l.count ≡ u64_saturate (count_all l.program l.cover (zip (take l.at l.mutants) (take l.at l.viable)))
