use Rattle.std.proofs.Common.{◌≡◌, ℕ, ◌<◌, ◌≤◌, Some, take, length, slice_get}
use Rattle.class_order.proofs.walk.drop_behind.Given as goal

abbrev pub invariant-loop-bound : goal.invariant-loop-bound
invariant-loop-bound l = record {
  is : l.bounds.items ≡ take (length l.bounds.items) l.initial.bounds.items;
  long : length l.bounds.items ≤ length l.initial.bounds.items;
  behind : (i b : ℕ) → length l.bounds.items ≤ i → slice_get l.initial.bounds.items i ≡ Some b → l.place < b;
}

abbrev pub decreases-loop-bound : goal.decreases-loop-bound
decreases-loop-bound l = length l.bounds.items
