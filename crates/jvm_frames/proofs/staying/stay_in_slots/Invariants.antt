use Rattle.std.proofs.Common.{◌≡◌, ℕ, ◌-◌, ◌≤◌, length}
use Rattle.jvm_state.specs.Slots.{IsStack}
use Rattle.jvm_frames.specs.Staying.{Stays, in_slots}
use Rattle.jvm_frames.proofs.staying.stay_in_slots.Given as goal

abbrev pub invariant-loop-left : goal.invariant-loop-left
invariant-loop-left l = record {
  limit : l.left ≤ l.limit;
  stays : (class method : ℕ) → Stays l.ops l.longs l.marks (l.limit - l.left) (in_slots class method l.first l.top l.fn.locals l.fn.operands l.words) (in_slots class method l.at l.top l.locals l.operands l.sp);
  stack : IsStack l.operands l.sp;
  within : l.sp ≤ l.top;
  locals : length l.locals ≡ length l.fn.locals;
  operands : length l.operands ≡ length l.fn.operands;
}

abbrev pub decreases-loop-left : goal.decreases-loop-left
decreases-loop-left l = l.left
