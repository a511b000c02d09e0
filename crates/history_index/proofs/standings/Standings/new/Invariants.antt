use Rattle.std.proofs.Common.{◌≡◌, ◌≤◌, ◌<◌, ◌-◌, ℕ, Some, length}
use Rattle.std.specs.Prelude.{slice_get}
use Rattle.history_index.proofs.standings.Standings.new.Given as goal

abbrev pub invariant-loop-classes : goal.invariant-loop-classes
invariant-loop-classes l = record {
  few : length l.classes.items ≤ l.names;
  none : (k : ℕ) → k < length l.classes.items → slice_get l.classes.items k ≡ Some (Some 0);
}

abbrev pub decreases-loop-classes : goal.decreases-loop-classes
decreases-loop-classes l = l.names - length l.classes.items
