use Rattle.std.proofs.Common.{ℕ, List, ◌+◌, ◌≡◌, ◌≤◌, length, drop}
use Rattle.type_rules.specs.References.{classes_of}
use Rattle.class_table.specs.Table.{look}
use Rattle.vframes.specs.declared.slot_type.SlotType.{SlotType}
use Rattle.vframes.specs.Stated.{AreLocals, AreChopped, AreWithin}
use Rattle.vframes.proofs.StatedLaws.{taken}
use Rattle.vframes.proofs.stated.are_locals_assignable.Given as goal

abbrev pub invariant-loop-more : goal.invariant-loop-more
invariant-loop-more l =
    (l.more ≤ l.fn.to.count)
    × ((ts : List SlotType) → AreLocals l.store l.fn.to ts → AreWithin (length l.from) ts → (down : ℕ) → down + l.more ≡ l.fn.to.count
    → AreChopped l.store l.left down ts
    × (taken (classes_of (look l.program)) l.names l.from ts ≡ taken (classes_of (look l.program)) l.names l.from (drop down ts)))

abbrev pub decreases-loop-more : goal.decreases-loop-more
decreases-loop-more l = l.more
