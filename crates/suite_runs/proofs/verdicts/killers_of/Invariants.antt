use Rattle.std.proofs.Common.{◌≡◌, map, take}
use Rattle.suite_runs.proofs.verdicts.killers_of.Given as goal

abbrev pub invariant-loop-one : goal.invariant-loop-one
invariant-loop-one l = l.killers ≡ map (λ d. d.0) (take l.one-index l.found)
