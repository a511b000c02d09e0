use Rattle.std.proofs.Common.{◌≡◌, ◌-◌, ◌≤◌, take, length}
use Rattle.jvm_state.proofs.store.make_slots.Given as goal

abbrev pub invariant-loop-slots : goal.invariant-loop-slots
invariant-loop-slots l = record {
  below : take l.from l.slots.items ≡ take l.from l.fn.slots.items;
  more : length l.fn.slots.items ≤ length l.slots.items;
}

abbrev pub decreases-loop-slots : goal.decreases-loop-slots
decreases-loop-slots l = l.end - length l.slots.items
