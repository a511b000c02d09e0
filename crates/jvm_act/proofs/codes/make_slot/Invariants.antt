use Rattle.std.proofs.Common.{◌≡◌, ◌+◌, ◌-◌, ℕ, None, length, get_or}
use Rattle.jvm_act.proofs.codes.make_slot.Given as goal

abbrev pub invariant-loop-codes : goal.invariant-loop-codes
invariant-loop-codes l = (i : ℕ) → get_or l.codes.items i None ≡ get_or l.fn.codes.items i None

abbrev pub decreases-loop-codes : goal.decreases-loop-codes
decreases-loop-codes l = l.at + 1 - length l.codes.items
