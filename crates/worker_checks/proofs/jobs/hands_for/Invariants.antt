use Rattle.std.proofs.Common.{◌≡◌, length}
use Rattle.std.specs.Prelude.{All}
use Rattle.worker_checks.specs.Rows.{IsFresh}
use Rattle.worker_checks.proofs.jobs.hands_for.Given as goal

abbrev pub invariant-loop : goal.invariant-loop
invariant-loop l = (length l.hands.items ≡ l.counter) × All (IsFresh l.found) l.hands.items
