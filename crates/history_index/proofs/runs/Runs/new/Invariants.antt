use Rattle.std.proofs.Common.{◌≤◌, ◌-◌, length}
use Rattle.std.specs.BTreeMap.{IsEmpty}
use Rattle.history_index.proofs.Grouping.{AreGroups}
use Rattle.history_index.proofs.runs.Runs.new.Given as goal

abbrev pub invariant-loop-others : goal.invariant-loop-others
invariant-loop-others l = record {
  few : length l.others.items ≤ l.count;
  none : AreGroups (λ m. IsEmpty m) l.others.items;
}

abbrev pub decreases-loop-others : goal.decreases-loop-others
decreases-loop-others l = l.count - length l.others.items
