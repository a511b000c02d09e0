use Rattle.std.proofs.Common.{◌≡◌, ◌+◌, ◌≤◌, ◌++◌, length}
use Rattle.std.specs.Prelude.{vec_capacity}
use Rattle.std.specs.Vec.Iter.{into_iter_items}
use Rattle.worker_gate.specs.Sharing.{ends_at}
use Rattle.worker_gate.proofs.sharing.ends_at.Given as goal

abbrev pub invariant-loop-place : goal.invariant-loop-place
invariant-loop-place g l = (l.ends.items ++ ends_at (into_iter_items l.place-iterator) ≡ ends_at l.fn.places.items)
    × (length (into_iter_items l.place-iterator) + length l.ends.items ≤ vec_capacity l.ends)
