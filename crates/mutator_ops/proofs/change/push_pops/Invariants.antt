use Rattle.std.proofs.Common.{◌≡◌, ◌≤◌, ◌++◌, length, map, reverse, take}
use Rattle.mutator_ops.specs.Changes.{bare, pop_of}
use Rattle.mutator_ops.proofs.change.push_pops.Given as goal

abbrev pub invariant-loop-left : goal.invariant-loop-left
invariant-loop-left l = (l.with ++ map bare (map pop_of (reverse (take l.left l.args))) ≡ l.initial.with ++ map bare (map pop_of (reverse l.args))) × (l.left ≤ length l.args)

abbrev pub decreases-loop-left : goal.decreases-loop-left
decreases-loop-left l = l.left
