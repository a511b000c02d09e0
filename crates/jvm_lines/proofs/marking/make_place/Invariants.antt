use Rattle.std.proofs.Common.{◌≡◌, ◌+◌, ◌-◌, ℕ, length, get_or}
use Rattle.jvm_lines.specs.Marking.{unmarked}
use Rattle.jvm_lines.proofs.marking.make_place.Given as goal

abbrev pub invariant-loop-alloc : goal.invariant-loop-alloc
invariant-loop-alloc l = (i : ℕ) → get_or l.all.items i unmarked ≡ get_or l.fn.all.items i unmarked

abbrev pub decreases-loop-alloc : goal.decreases-loop-alloc
decreases-loop-alloc l = l.place + 1 - length l.all.items
