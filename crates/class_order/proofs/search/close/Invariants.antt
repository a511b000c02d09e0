use Rattle.std.proofs.Common.{◌≤◌, ◌-◌}
use Rattle.class_order.specs.Searches.{ClosesTo, work}
use Rattle.class_order.proofs.search.close.Given as goal

abbrev pub invariant-loop-at : goal.invariant-loop-at
invariant-loop-at l = record {
  from : l.fn.from ≤ l.at;
  closes : ClosesTo l.links l.stamp l.fn.from l.at l.initial.search l.search;
}

abbrev pub decreases-loop-at : goal.decreases-loop-at
decreases-loop-at l = work l.stamp l.search - l.at
