use Rattle.std.proofs.Common.{◌≡◌, ◌+◌, ◌-◌, ℕ, [], length, get_or}
use Rattle.jvm_marks.proofs.reached.make_mark.Given as goal

abbrev pub invariant-loop-alloc : goal.invariant-loop-alloc
invariant-loop-alloc l = (c : ℕ) → get_or l.lines.items c [] ≡ get_or l.fn.lines.items c []

abbrev pub decreases-loop-alloc : goal.decreases-loop-alloc
decreases-loop-alloc l = l.class + 1 - length l.lines.items
