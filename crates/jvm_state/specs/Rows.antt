-- What a row comes to that touches the top frame alone.
use Rattle.std.specs.Prelude.{◌≡◌, ℕ, ◌≤◌, List, ◌∷◌, Option, IfSome, IfNone}
use Rattle.program_rules.specs.Names.{Name}
use Rattle.machine_rules.specs.declared.machine.Limits.{Limits}
use Rattle.machine_rules.specs.State.{Frame, World}
use Rattle.machine_rules.specs.Effects.{Effect, NoRow, goes_with}
use Rattle.jvm_state.specs.declared.slot.Slot.{Slot}
use Rattle.jvm_state.specs.Slots.{locals_in, stack_in, IsStack}

-- A row of the machine, whatever the world and the frames below are.
abbrev pub Row : Type 0
Row = World → Frame → List Frame → Effect

-- The frame of a method at a place, with these locals and so many of these words as its stack.
abbrev pub frame_in : Name → ℕ → ℕ → List Slot → List Slot → ℕ → Frame
frame_in class method at locals operands sp = record {
  class = class;
  method = method;
  at = at;
  locals = locals_in locals;
  stack = stack_in operands sp;
}

-- A row goes on from a frame of these slots to one of those, in each method, world and callers. The
-- new stack is whole and has no more than so many words.
pub record GoesOn (row : Row) (top at sp : ℕ) (ls xs ms ys : List Slot) (to left : ℕ) : Type 0 where
  pub goes : (class : Name) (method : ℕ) (w : World) (fs : List Frame) →
      row w (frame_in class method at ls xs sp) fs
      ≡ goes_with w (frame_in class method to ms ys left ∷ fs)
  pub stack : IsStack ys left
  pub within : left ≤ top

-- A row does to a frame of these slots what another one does, and they are as they were.
pub record Leaves (row other : Row) (at sp : ℕ) (ls xs ms ys : List Slot) : Type 0 where
  pub same : (class : Name) (method : ℕ) (w : World) (fs : List Frame) →
      row w (frame_in class method at ls xs sp) fs
      ≡ other w (frame_in class method at ls xs sp) fs
  pub locals : ms ≡ ls
  pub operands : ys ≡ xs

-- What a function of a row gives: the next instruction and the words that are left; or none, and
-- then the row is this other one.
abbrev pub ActsElse :
    Row → Row → ℕ → ℕ → ℕ → List Slot → List Slot → List Slot → List Slot → Option (ℕ × ℕ) →
    Type 0
ActsElse row other top at sp ls xs ms ys result =
    IfSome result (λ r. GoesOn row top at sp ls xs ms ys r.0 r.1)
    × IfNone result (Leaves row other at sp ls xs ms ys)

-- The same where none says that no row applies.
abbrev pub Acts :
    Row → ℕ → ℕ → ℕ → List Slot → List Slot → List Slot → List Slot → Option (ℕ × ℕ) → Type 0
Acts row top at sp ls xs ms ys result =
    ActsElse row (λ w f fs. NoRow) top at sp ls xs ms ys result

-- The same where the locals stay, whatever they are.
abbrev pub Lays : Row → ℕ → ℕ → ℕ → List Slot → List Slot → Option (ℕ × ℕ) → Type 0
Lays row top at sp xs ys result = (ls : List Slot) → Acts row top at sp ls xs ls ys result

-- The same with another row that is left, where both ask for the limits.
abbrev pub LaysElse :
    (Limits → Row) → (Limits → Row) → ℕ → ℕ → ℕ → List Slot → List Slot → Option (ℕ × ℕ) → Type 0
LaysElse row other top at sp xs ys result =
    (q : Limits) (ls : List Slot) → ActsElse (row q) (other q) top at sp ls xs ls ys result
