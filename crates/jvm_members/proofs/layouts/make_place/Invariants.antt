use Rattle.std.proofs.Common.{◌≡◌, ◌+◌, ◌-◌, ℕ, None, length, get_or}
use Rattle.jvm_members.proofs.layouts.make_place.Given as goal

abbrev pub invariant-loop-rows : goal.invariant-loop-rows
invariant-loop-rows l = (i : ℕ) → get_or l.rows.items i None ≡ get_or l.fn.rows.items i None

abbrev pub decreases-loop-rows : goal.decreases-loop-rows
decreases-loop-rows l = l.at + 1 - length l.rows.items
