use Rattle.std.proofs.Common.{ℕ, List, ◌+◌, ◌≡◌, ◌≤◌, take}
use Rattle.vframes.specs.declared.slot_type.SlotType.{SlotType}
use Rattle.vframes.specs.Stated.{AreLocals, AreChopped}
use Rattle.vframes.proofs.full.types_down.Given as goal

abbrev pub invariant-loop-more : goal.invariant-loop-more
invariant-loop-more l =
    (l.more ≤ l.fn.locals.count)
    × ((ts : List SlotType) → AreLocals l.store l.fn.locals ts → (down : ℕ) → down + l.more ≡ l.fn.locals.count
    → AreChopped l.store l.left down ts × (l.out.items ≡ take down ts))

abbrev pub decreases-loop-more : goal.decreases-loop-more
decreases-loop-more l = l.more
