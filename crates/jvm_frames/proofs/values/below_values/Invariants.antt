use Rattle.std.proofs.Common.{◌≡◌, ◌+◌, ◌-◌, ◌≤◌, take, drop}
use Rattle.program_rules.specs.Kinds.{height_of}
use Rattle.jvm_state.specs.Slots.{stack_in, IsStack}
use Rattle.jvm_frames.proofs.values.below_values.Given as goal

abbrev pub invariant-loop-taken : goal.invariant-loop-taken
invariant-loop-taken l = record {
  rest : stack_in l.operands l.rest ≡ drop l.taken (stack_in l.operands l.sp);
  stack : IsStack l.operands l.rest;
  words : l.rest + height_of (take l.taken (stack_in l.operands l.sp)) ≡ l.sp;
  within : l.taken ≤ l.count;
}

abbrev pub decreases-loop-taken : goal.decreases-loop-taken
decreases-loop-taken l = l.count - l.taken
