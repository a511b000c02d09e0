use Rattle.std.proofs.Common.{◌≡◌, map, take, zip}
use Rattle.suite_runs.specs.Covering.{numbers_of}
use Rattle.suite_runs.proofs.covering.covering_all.Given as goal

abbrev pub invariant-loop-at : goal.invariant-loop-at
invariant-loop-at l = l.all ≡ map (numbers_of l.program l.cover) (zip (take l.at l.mutants) (take l.at l.viable))
