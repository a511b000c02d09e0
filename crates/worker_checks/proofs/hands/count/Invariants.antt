use Rattle.std.proofs.Common.{◌≡◌, ◌+◌}
use Rattle.worker_checks.proofs.hands.count.Given as goal

abbrev pub invariant-loop : goal.invariant-loop
invariant-loop l = l.part ≡ l.initial.part + l.counter
