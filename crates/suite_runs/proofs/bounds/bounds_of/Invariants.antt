use Rattle.std.proofs.Common.{◌≡◌, map, take}
use Rattle.machine_rules.specs.Runs.{limit_of}
use Rattle.suite_workers.specs.Said.{known_record}
use Rattle.suite_runs.proofs.bounds.bounds_of.Given as goal

abbrev pub invariant-loop-run : goal.invariant-loop-run
invariant-loop-run l = l.bounds ≡ map (λ k. limit_of (known_record k).steps) (take l.run-index l.runs)
