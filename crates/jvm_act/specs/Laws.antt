-- What rows come to, said in one way; and what becomes of frames.
use Rattle.std.specs.Prelude.{◌≡◌, ◌⊎◌, ◌≤◌, List, [], IfSome, IsSomeAnd}
use Rattle.program_rules.specs.Instructions.{MethodRef}
use Rattle.class_link.specs.Info.{Info}
use Rattle.jvm_state.specs.Rows.{Row}
use Rattle.jvm_frames.specs.Frames.{NumberedFrame, NumberedFrames}
use Rattle.jvm_world.specs.declared.world.World.{World}
use Rattle.jvm_rows.specs.declared.effect.Effect.{Effect}
use Rattle.jvm_rows.specs.Effects.{RowOf, Runs}
use Rattle.jvm_members.specs.Whole.{RunsWhole}
use Rattle.jvm_unwind.specs.declared.turn.Turn.{Turn}
use Rattle.jvm_unwind.specs.Turns.{Turns}
use Rattle.jvm_unwind.specs.Unwinding.{IsHandled, IsLeftOrOn}
use Rattle.jvm_calls.specs.Returns.{StaysOrBack}
use Rattle.jvm_initialization.specs.Begins.{StaysOrBegins}
use Rattle.jvm_members.specs.Turned.{TurnsWhole, StaysBeginsOrGoes}
use Rattle.jvm_invokes.specs.declared.invoked.Invoked.TheVariants as invoked
use Rattle.jvm_invokes.specs.Invoked.{Invokes, IsOfMethod, StaysOrEnters}
use Rattle.jvm_act.specs.declared.methods.MethodCode.{MethodCode}
use Rattle.jvm_act.specs.Methods.{IsCodeOf}
use Rattle.jvm_act.specs.Turned.{Turned, turn_of, always}
use Rattle.jvm_act.specs.Standing.{HasNext, AreFramesOf}

-- ---- what rows come to

-- A row by which the running frame stays.
abbrev pub RunsAreTurned : Type 0
RunsAreTurned =
    (p : List Info) (row : RowOf) (e : Effect) (old new : NumberedFrames) (w u : World) →
    Runs p row e old new w u → Turned p row (turn_of e) old new w u

-- One that resolves what its instruction names.
abbrev pub WholesAreTurned : Type 0
WholesAreTurned =
    (p : List Info) (row : RowOf) (e : Effect) (old new : NumberedFrames) (w u : World) →
    RunsWhole p row e old new w u → Turned p row (turn_of e) old new w u

-- One that may change which frames there are.
abbrev pub TurnsAreTurned : Type 0
TurnsAreTurned =
    (p : List Info) (row : Row) (t : Turn) (old new : NumberedFrames) (w u : World) →
    Turns p row t old new w u → Turned p (always row) t old new w u

-- One that calls a method, once nothing is left of it.
abbrev pub InvokedAreTurned : Type 0
InvokedAreTurned =
    (p : List Info) (r : MethodRef) (row : RowOf) (t : Turn) (old new : NumberedFrames)
    (w u : World) →
    Invokes p r row (invoked.Turned t) old new w u → Turned p row t old new w u

-- One that uses a field, or makes an object.
abbrev pub FieldsAreTurned : Type 0
FieldsAreTurned =
    (p : List Info) (row : RowOf) (t : Turn) (old new : NumberedFrames) (w u : World) →
    TurnsWhole p row t old new w u → Turned p row t old new w u

-- ---- what becomes of frames

-- Behind a row by which the running frame stays.
abbrev pub WholesKeepFrames : Type 0
WholesKeepFrames =
    (p : List Info) (row : RowOf) (e : Effect) (old new : NumberedFrames) (w u : World) →
    IsSomeAnd old.frame HasNext → RunsWhole p row e old new w u → AreFramesOf p old →
    AreFramesOf p new

-- Behind an instruction that calls a method.
abbrev pub CallsKeepFrames : Type 0
CallsKeepFrames =
    (p : List Info) (old new : NumberedFrames) → IsSomeAnd old.frame HasNext →
    StaysOrEnters p old new → AreFramesOf p old → AreFramesOf p new

-- Behind the begin of a class.
abbrev pub BeginsKeepFrames : Type 0
BeginsKeepFrames =
    (p : List Info) (old new : NumberedFrames) → IfSome old.frame HasNext →
    StaysOrBegins p old new → AreFramesOf p old → AreFramesOf p new

-- Behind an instruction that uses a field or makes an object.
abbrev pub FieldsKeepFrames : Type 0
FieldsKeepFrames =
    (p : List Info) (old new : NumberedFrames) → IsSomeAnd old.frame HasNext →
    StaysBeginsOrGoes p old new → AreFramesOf p old → AreFramesOf p new

-- Behind a return.
abbrev pub ReturnsKeepFrames : Type 0
ReturnsKeepFrames =
    (p : List Info) (old new : NumberedFrames) → StaysOrBack old new → AreFramesOf p old →
    AreFramesOf p new

-- Behind a step of an object that is thrown.
abbrev pub ThrowsKeepFrames : Type 0
ThrowsKeepFrames =
    (p : List Info) (old new : NumberedFrames) → IsSomeAnd old.frame (IsOfMethod p) →
    IsLeftOrOn old new → AreFramesOf p old → AreFramesOf p new

-- ---- what is asked where an object is thrown

-- A method that has rows has room for an object on its stack, as all code has that is accepted
-- (JVMS 4.10.1.6).
abbrev pub HasRoomToLand : MethodCode → Type 0
HasRoomToLand m = (m.linked.rows ≡ []) ⊎ (1 ≤ m.linked.max_stack)

-- A frame of a method with such code is one in which an object may be thrown.
abbrev pub FramesAreHandled : Type 0
FramesAreHandled =
    (p : List Info) (m : MethodCode) (f : NumberedFrame) → IsCodeOf p f.class f.method m →
    IsOfMethod p f → HasRoomToLand m → IsHandled p m.handlers f
