use Rattle.std.proofs.Common.{◌≡◌, ◌≤◌, ◌+◌, ◌-◌, length}
use Rattle.jvm_world.specs.View.{AreShort}
use Rattle.jvm_array_rows.specs.Grown.{finished}
use Rattle.jvm_array_rows.proofs.building.finish.Given as goal

abbrev pub invariant-loop-left : goal.invariant-loop-left
invariant-loop-left l = record {
  same : finished l.name l.counts l.lefts.items l.heap ≡ finished l.name l.counts l.fn.lefts.items l.fn.heap;
  levels : length l.lefts.items ≤ length l.counts;
  limit : l.heap.limit ≡ l.fn.heap.limit;
  short : AreShort l.heap.objects;
}

abbrev pub decreases-loop-left : goal.decreases-loop-left
decreases-loop-left l = (l.heap.limit - l.heap.used) + length l.lefts.items
