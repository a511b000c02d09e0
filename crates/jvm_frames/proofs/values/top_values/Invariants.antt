use Rattle.std.proofs.Common.{◌≡◌, ◌-◌, ◌≤◌, length, take, drop}
use Rattle.jvm_state.specs.Slots.{stack_in, IsStack}
use Rattle.jvm_frames.proofs.values.top_values.Given as goal

abbrev pub invariant-loop-v : goal.invariant-loop-v
invariant-loop-v l = record {
  values : l.values.items ≡ take (length l.values.items) (stack_in l.operands l.sp);
  rest : stack_in l.operands l.rest ≡ drop (length l.values.items) (stack_in l.operands l.sp);
  stack : IsStack l.operands l.rest;
  within : length l.values.items ≤ l.count;
}

abbrev pub decreases-loop-v : goal.decreases-loop-v
decreases-loop-v l = l.count - length l.values.items
