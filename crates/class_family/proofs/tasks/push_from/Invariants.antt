use Rattle.std.proofs.Common.{◌≡◌, ◌⊎◌, ◌≤◌, ◌++◌, length, drop}
use Rattle.class_order.specs.Graph.{supers_of}
use Rattle.class_family.specs.Walks.{enters_of}
use Rattle.class_family.proofs.tasks.push_from.Given as goal

abbrev pub invariant-loop-left : goal.invariant-loop-left
invariant-loop-left l = record {
  pushed : l.tasks.items ≡ l.fn.tasks.items ++ enters_of (drop l.left (supers_of l.links));
  far : (length (supers_of l.links) ≤ l.left) ⊎ (l.from ≤ l.left);
}

abbrev pub decreases-loop-left : goal.decreases-loop-left
decreases-loop-left l = l.left
