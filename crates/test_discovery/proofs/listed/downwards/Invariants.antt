use Rattle.std.proofs.Common.{◌≡◌, ◌++◌, length}
use Rattle.test_discovery.specs.Listed.{downwards}
use Rattle.test_discovery.proofs.listed.downwards.Given as goal

abbrev pub invariant-loop-list : goal.invariant-loop-list
invariant-loop-list l = l.all.items ++ downwards l.by_class.items ≡ downwards l.fn.by_class.items

abbrev pub decreases-loop-list : goal.decreases-loop-list
decreases-loop-list l = length l.by_class.items
