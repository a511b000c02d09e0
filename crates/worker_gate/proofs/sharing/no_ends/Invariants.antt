use Rattle.std.proofs.Common.{◌≡◌, ◌≤◌, length, replicate, None}
use Rattle.std.specs.Prelude.{vec_capacity}
use Rattle.worker_gate.proofs.sharing.no_ends.Given as goal

abbrev pub invariant-loop : goal.invariant-loop
invariant-loop g l = (l.places.items ≡ replicate l.counter None) × (length l.places.items ≡ l.counter) × (l.cells ≤ vec_capacity l.places)
