-- The frames of a machine in one store of slots.
use Rattle.std.specs.Prelude.{◌≡◌, ℕ, ℤ, ◌+◌, ◌-◌, ◌≤◌, Bool, true, false, List, [], ◌∷◌, ◌++◌, take, drop, length, replicate, Option, None}
use Rattle.program_rules.specs.Names.{Name}
use Rattle.program_rules.specs.Kinds.{Kind}
use Rattle.program_rules.specs.Programs.{Look}
use Rattle.program_rules.specs.Instructions as def
use Rattle.machine_rules.specs.declared.machine.Limits.{Limits}
use Rattle.machine_rules.specs.State as rules
use Rattle.machine_rules.specs.Effects.{goes_with}
use Rattle.jvm_state.specs.declared.op.Op.{Op}
use Rattle.jvm_state.specs.declared.slot.Slot.{Slot}
use Rattle.jvm_state.specs.declared.frame.Frame.{Frame}
use Rattle.jvm_state.specs.Slots.{locals_in, IsStack}
use Rattle.jvm_state.specs.Rows.{Row, frame_in}
use Rattle.jvm_state.specs.Ops.{Naming, instruction_of, row_of, left_by}

-- The slots of a frame's locals, and those of its operands, whether they are in use or not.
abbrev pub locals_at : List Slot → Frame → List Slot
locals_at slots f = drop f.base (take f.floor slots)

abbrev pub operands_at : List Slot → Frame → List Slot
operands_at slots f = take f.top (drop f.floor slots)

-- A frame by the name of its class.
abbrev pub frame_at : List Slot → Name → Frame → rules.Frame
frame_at slots class f =
    frame_in class f.method f.at (locals_at slots f) (operands_at slots f) f.sp

-- A frame stands in a store: its locals, then its operands, of which the lowest words are a stack.
pub record IsFrame (slots : List Slot) (f : Frame) : Type 0 where
  pub locals : f.base ≤ f.floor
  pub operands : f.floor + f.top ≤ length slots
  pub within : f.sp ≤ f.top
  pub stack : IsStack (operands_at slots f) f.sp

-- The frames below a place, the top first: each stands there, and what it uses ends below what the
-- next one uses.
abbrev pub AreBelow : List Slot → ℕ → List Frame → Type 0
AreBelow slots place [] = Unit {0}
AreBelow slots place (f ∷ fs) =
    IsFrame slots f × (f.floor + f.sp ≤ place) × AreBelow slots f.base fs

-- A frame is at the same method and has the same slots, whatever it has done with them.
pub record IsSameFrame (old new : Frame) : Type 0 where
  pub class : new.class ≡ old.class
  pub method : new.method ≡ old.method
  pub base : new.base ≡ old.base
  pub floor : new.floor ≡ old.floor
  pub top : new.top ≡ old.top

-- A row goes on with a frame that stands in the store, and nothing below its locals has changed.
pub record StepsTo (row : Row) (xs ys : List Slot) (f g : Frame) : Type 0 where
  pub goes : (class : Name) (w : rules.World) (fs : List rules.Frame) →
      row w (frame_at xs class f) fs ≡ goes_with w (frame_at ys class g ∷ fs)
  pub frame : IsFrame ys g
  pub same : IsSameFrame f g
  pub below : take f.base ys ≡ take f.base xs

-- A row does to a frame what another one does, and the frame and the store are as they were.
pub record StaysAt (row other : Row) (xs ys : List Slot) (f g : Frame) : Type 0 where
  pub goes : (class : Name) (w : rules.World) (fs : List rules.Frame) →
      row w (frame_at xs class f) fs ≡ other w (frame_at xs class f) fs
  pub frame : g ≡ f
  pub slots : ys ≡ xs

-- What a step of a frame in a store comes to, by whether it was done.
abbrev pub StepsBy : Row → Row → Bool → List Slot → List Slot → Frame → Frame → Type 0
StepsBy row other true xs ys f g = StepsTo row xs ys f g
StepsBy row other false xs ys f g = StaysAt row other xs ys f g

-- The same of an instruction, in each program, method and world.
abbrev pub RunsIn :
    List ℤ → Op → Bool → List Slot → List Slot → Frame → Frame → Type 0
RunsIn longs i done xs ys f g =
    (named : Naming → ℕ → def.Instruction) (p : Look) (q : Limits) (kind : Option Kind)
    (starts : Bool) →
    StepsBy (row_of p q kind f.top starts (instruction_of longs named i))
    (left_by i q (row_of p q kind f.top starts (instruction_of longs named i))) done xs ys f g

-- The frame of a method whose first locals, so many, are the uppermost slots below a place: its
-- other locals are unset, and its stack is empty.
pub record IsEntered
    (from args number place max_locals max_stack : ℕ) (xs ys : List Slot) (f : Frame)
    : Type 0 where
  pub is_class : f.class.0 ≡ number
  pub method : f.method ≡ place
  pub at : f.at ≡ 0
  pub base : f.base + args ≡ from
  pub floor : f.floor ≡ f.base + max_locals
  pub sp : f.sp ≡ 0
  pub top : f.top ≡ max_stack
  pub frame : IsFrame ys f
  pub locals : locals_in (locals_at ys f)
      ≡ locals_in (drop f.base (take from xs)) ++ replicate (max_locals - args) None
  pub below : take f.base ys ≡ take f.base xs
