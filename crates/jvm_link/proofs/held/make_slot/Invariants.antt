use Rattle.std.proofs.Common.{◌≡◌, ◌+◌, ◌-◌, ℕ, None, length, get_or}
use Rattle.jvm_link.proofs.held.make_slot.Given as goal

abbrev pub invariant-loop-items : goal.invariant-loop-items
invariant-loop-items g l = (i : ℕ) → get_or l.items.items i None ≡ get_or l.fn.items.items i None

abbrev pub decreases-loop-items : goal.decreases-loop-items
decreases-loop-items g l = l.at + 1 - length l.items.items
