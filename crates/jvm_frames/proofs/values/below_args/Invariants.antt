use Rattle.std.proofs.Common.{◌≡◌, ◌+◌, ◌-◌, ◌≤◌, length, map, take}
use Rattle.program_rules.specs.Kinds.{height_of}
use Rattle.class_link.specs.Symbols.{kind_of}
use Rattle.jvm_state.specs.Slots.{stack_in, IsStack}
use Rattle.jvm_frames.proofs.Taking.{IsBelow}
use Rattle.jvm_frames.proofs.values.below_args.Given as goal

abbrev pub invariant-loop-left : goal.invariant-loop-left
invariant-loop-left l = record {
  below : IsBelow (map kind_of l.kinds) (stack_in l.operands l.sp) l.left (stack_in l.operands l.rest);
  stack : IsStack l.operands l.rest;
  within : l.left ≤ length l.kinds;
  words : l.rest + height_of (take (length (map kind_of l.kinds) - l.left) (stack_in l.operands l.sp)) ≡ l.sp;
}

abbrev pub decreases-loop-left : goal.decreases-loop-left
decreases-loop-left l = l.left
