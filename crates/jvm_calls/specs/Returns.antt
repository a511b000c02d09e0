-- Returns (JVMS 2.6.4, 6.5).
use Rattle.std.specs.Prelude.{◌≡◌, ◌⊎◌, ℕ, ◌+◌, ◌<◌, ◌^◌, Bool, if◌then◌else◌, List, [], ◌∷◌, Option, None, Some, IfSome, IsSomeAnd, slice_get}
use Rattle.program_rules.specs.declared.value.Value.{Value}
use Rattle.program_rules.specs.declared.value.Value.TheVariants.{Int, Long, Ref, Null}
use Rattle.program_rules.specs.Kinds.{Kind, narrow, is_int_kind, is_long_kind, is_of_kind}
use Rattle.program_rules.specs.Programs.{Look}
use Rattle.machine_rules.specs.State as def
use Rattle.machine_rules.specs.Effects.{Effect, NoRow, Current}
use Rattle.machine_rules.specs.Calls.{room_of, returns, returns_int, returns_long, returns_reference, returns_plain, is_reference_kind}
use Rattle.class_link.specs.Info.{Info}
use Rattle.class_table.specs.Table.{look}
use Rattle.jvm_state.specs.Rows.{Row}
use Rattle.jvm_frames.specs.Frames.{NumberedFrame, NumberedFrames, left_behind}
use Rattle.jvm_unwind.specs.Turns.{frame_of}
use Rattle.jvm_unwind.specs.Unwinding.{IsOf}

-- ---- the frame below

-- What is known of the frame below: there is a number for the instruction behind its call, and its
-- stack may have the words that its method says.
pub record IsCaller (p : List Info) (f : NumberedFrame) : Type 0 where
  pub next : f.at + 1 < 2 ^ 64
  pub room : room_of (look p) (frame_of p f) ≡ Some f.room

-- The same of the frame below the running one, if there is one.
abbrev pub HasCaller : List Info → NumberedFrames → Type 0
HasCaller p s = IfSome (slice_get s.callers 0) (IsCaller p)

-- The frame below goes on, if there is one.
abbrev pub GoesBack : List NumberedFrame → NumberedFrames → Type 0
GoesBack [] new = new ≡ left_behind []
GoesBack (f ∷ fs) new = IsSomeAnd new.frame (IsOf f) × (new.callers ≡ fs)

-- All frames are as they were, or the frame below goes on.
abbrev pub StaysOrBack : NumberedFrames → NumberedFrames → Type 0
StaysOrBack old new = (new ≡ old) ⊎ GoesBack old.callers new

-- ---- results

-- The method returns with this result; without one no row applies.
abbrev pub returns_with : Look → def.World → List def.Frame → Option Value → Effect
returns_with p w fs None = NoRow
returns_with p w fs (Some v) = returns p w fs (Some v)

-- The int on the top of a stack, narrowed to a kind.
abbrev pub int_on : Kind → List Value → Option Value
int_on k [] = None
int_on k (Int z ∷ rest) = Some (Int (narrow k z))
int_on k (Long z ∷ rest) = None
int_on k (Ref x ∷ rest) = None
int_on k (Null ∷ rest) = None

-- The long on the top.
abbrev pub long_on : List Value → Option Value
long_on [] = None
long_on (Int z ∷ rest) = None
long_on (Long z ∷ rest) = Some (Long z)
long_on (Ref x ∷ rest) = None
long_on (Null ∷ rest) = None

-- The value on the top, if it is of a kind.
abbrev pub reference_on : Kind → List Value → Option Value
reference_on k [] = None
reference_on k (v ∷ rest) = if is_of_kind k v then Some v else None

-- What a method with a result of this kind gives, if its stack has it.
abbrev pub int_result : Option Kind → List Value → Option Value
int_result None stack = None
int_result (Some k) stack = if is_int_kind k then int_on k stack else None

abbrev pub long_result : Option Kind → List Value → Option Value
long_result None stack = None
long_result (Some k) stack = if is_long_kind k then long_on stack else None

abbrev pub reference_result : Option Kind → List Value → Option Value
reference_result None stack = None
reference_result (Some k) stack = if is_reference_kind k then reference_on k stack else None

-- It is what the running frame gives.
abbrev pub IsGiven : (List Value → Option Value) → Option Value → NumberedFrames → Type 0
IsGiven result v s = IfSome s.frame (λ f. v ≡ result f.stack)

-- ---- rows

-- The frame that runs is left, with a result if there is one.
abbrev pub back : List Info → Option Value → Row
back p v = λ w f fs. returns (look p) w fs v

-- The same with what the stack gives.
abbrev pub giving : List Info → (List Value → Option Value) → Row
giving p result = λ w f fs. returns_with (look p) w fs (result f.stack)

-- `ireturn`, `lreturn`, `areturn`.
abbrev pub returning_int : List Info → Option Kind → Row
returning_int p kind = λ w f fs. returns_int (look p) w f fs kind

abbrev pub returning_long : List Info → Option Kind → Row
returning_long p kind = λ w f fs. returns_long (look p) w f fs kind

abbrev pub returning_reference : List Info → Option Kind → Row
returning_reference p kind = λ w f fs. returns_reference (look p) w f fs kind

-- What `return` asks of its method.
abbrev pub current : Option Kind → ℕ → Bool → Current
current kind room initializes =
    record { result = kind; max_stack = room; initializes = initializes }

-- `return`.
abbrev pub returning_plain : List Info → Option Kind → ℕ → Bool → Row
returning_plain p kind room initializes =
    λ w f fs. returns_plain (look p) w f fs (current kind room initializes)
