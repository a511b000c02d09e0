use Rattle.std.proofs.Common.{◌≡◌, ◌+◌, ◌-◌, ℕ, length, get_or}
use Rattle.jvm_marks.proofs.slots.make_place.Given as goal

abbrev pub invariant-loop-first : goal.invariant-loop-first
invariant-loop-first g l = (i : ℕ) → get_or l.slots.items i l.first ≡ get_or l.fn.slots.items i l.first

abbrev pub decreases-loop-first : goal.decreases-loop-first
decreases-loop-first g l = l.at + 1 - length l.slots.items
