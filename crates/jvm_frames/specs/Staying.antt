-- Steps of one frame alone.
use Rattle.std.specs.Prelude.{◌≡◌, ℕ, zero, suc, ℤ, Bool, true, List, Option, Some, IsSomeAnd, slice_get}
use Rattle.program_rules.specs.Kinds.{Kind}
use Rattle.program_rules.specs.Programs.{Look}
use Rattle.program_rules.specs.Instructions as def
use Rattle.machine_rules.specs.declared.machine.Limits.{Limits}
use Rattle.jvm_state.specs.declared.op.Op.{Op}
use Rattle.jvm_state.specs.declared.slot.Slot.{Slot}
use Rattle.jvm_state.specs.Slots.{locals_in, stack_in}
use Rattle.jvm_state.specs.Ops.{Naming, instruction_of, row_of, is_alone}
use Rattle.jvm_frames.specs.Frames.{NumberedFrame, NumberedFrames, Does}

-- A frame by its slots and the words of its stack.
abbrev pub in_slots : ℕ → ℕ → ℕ → ℕ → List Slot → List Slot → ℕ → NumberedFrame
in_slots class method at room locals operands sp = record {
  class = class;
  method = method;
  at = at;
  locals = locals_in locals;
  stack = stack_in operands sp;
  room = room;
}

-- One step: the frame's instruction touches the top frame alone and has a mark, and its row goes
-- on, in each program and method.
pub record StepsAlone
    (ops : List Op) (longs : List ℤ) (marks : List Bool) (f g : NumberedFrame)
    : Type 0 where
  pub op : Op
  pub stands : slice_get ops f.at ≡ Some op
  pub marked : slice_get marks f.at ≡ Some true
  pub alone : is_alone op ≡ true
  pub does : (named : Naming → ℕ → def.Instruction) (p : Look) (q : Limits) (kind : Option Kind)
      (starts : Bool) → Does (row_of p q kind f.room starts (instruction_of longs named op)) f g

-- So many steps.
abbrev pub Stays :
    List Op → List ℤ → List Bool → ℕ → NumberedFrame → NumberedFrame → Type 0
Stays ops longs marks zero f h = h ≡ f
Stays ops longs marks (suc n) f h =
    (g : NumberedFrame) × StepsAlone ops longs marks f g × Stays ops longs marks n g h

-- The running frame takes so many steps, and those below it are as they were.
pub record StayOn
    (ops : List Op) (longs : List ℤ) (marks : List Bool) (n : ℕ) (f : NumberedFrame)
    (old new : NumberedFrames)
    : Type 0 where
  pub frame : IsSomeAnd new.frame (Stays ops longs marks n f)
  pub callers : new.callers ≡ old.callers
