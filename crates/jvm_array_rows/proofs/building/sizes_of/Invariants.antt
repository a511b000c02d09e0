use Rattle.std.proofs.Common.{◌≡◌, ◌≤◌, length, drop}
use Rattle.jvm_array_rows.specs.Grown.{IsTotal, AreSizes}
use Rattle.jvm_array_rows.proofs.building.sizes_of.Given as goal

abbrev pub invariant-loop-left : goal.invariant-loop-left
invariant-loop-left l = record {
  sizes : AreSizes l.left l.sizes.items l.counts;
  total : IsTotal l.total (drop l.left l.counts);
  within : l.left ≤ length l.counts;
  len : length l.sizes.items ≡ length l.counts;
}

abbrev pub decreases-loop-left : goal.decreases-loop-left
decreases-loop-left l = l.left
