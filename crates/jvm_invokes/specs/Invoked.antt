-- What a row that calls a method comes to, of frames and a world by number.
use Rattle.std.specs.Prelude.{◌≡◌, ◌⊎◌, ◌<◌, ℕ, List, ◌∷◌, drop, None, Some, IfSome, IsSomeAnd, length}
use Rattle.program_rules.specs.Instructions.{MethodRef}
use Rattle.program_rules.specs.Resolution.{MethodAt}
use Rattle.machine_rules.specs.declared.machine.Limits.{Limits}
use Rattle.machine_rules.specs.State as def
use Rattle.machine_rules.specs.Effects.{Effect, NoRow}
use Rattle.machine_rules.specs.Initialisation.{when_ready}
use Rattle.machine_rules.specs.Calls.{room_of, calls_method, calls_static}
use Rattle.class_link.specs.Info.{Info}
use Rattle.class_table.specs.Table.{look}
use Rattle.jvm_state.specs.Rows.{Row}
use Rattle.jvm_frames.specs.Frames.{NumberedFrame, NumberedFrames, AreArgs, IsCut, args_on, cut}
use Rattle.jvm_world.specs.declared.world.World.{World}
use Rattle.jvm_world.specs.View.{Means, Comes}
use Rattle.jvm_rows.specs.Effects.{RowOf}
use Rattle.jvm_unwind.specs.declared.turn.Turn.TheVariants as turn
use Rattle.jvm_unwind.specs.Turns.{frame_of, frames_of, row_at}
use Rattle.jvm_link.specs.declared.site.Site.{Site}
use Rattle.jvm_link.specs.declared.site.Callee.{Callee}
use Rattle.jvm_link.specs.declared.site.Callee.TheVariants as callee
use Rattle.jvm_link.specs.Answers.{IsCallee}
use Rattle.jvm_invokes.specs.declared.invoked.Invoked.{Invoked}
use Rattle.jvm_invokes.specs.declared.invoked.Invoked.TheVariants as invoked

-- ---- what is left of a row

-- A method is called with the uppermost values of the stack, so many.
abbrev pub calls_with : List Info → ℕ → MethodAt → RowOf
calls_with p count m = λ q room w f fs.
    calls_method (look p) q w f fs room (args_on count f.stack) (drop count f.stack) m

-- A static method is called once its class is initialised.
abbrev pub calls_ready : List Info → MethodRef → MethodAt → RowOf
calls_ready p r m = λ q room w f fs.
    when_ready (look p) q w (f ∷ fs) m.class (calls_static (look p) q f fs room r m)

-- An effect is what a row gives at a frame, in some world that is meant.
pub record Leaves
    (p : List Info) (row : Row) (f : NumberedFrame) (s : NumberedFrames) (u : World) (d : Effect)
    : Type 0 where
  pub world : def.World
  pub means : Means p u world
  pub left : d ≡ row_at p row f s world

-- It is the call of this method with so many values.
pub record LeavesCall
    (p : List Info) (q : Limits) (count : ℕ) (c : Callee) (f : NumberedFrame)
    (s : NumberedFrames) (u : World) (d : Effect) : Type 0 where
  pub method : MethodAt
  pub callee : IsCallee p method c
  pub rest : Leaves p (calls_with p count method q f.room) f s u d

-- It is the call of this static method, before which its class may have to be initialised.
pub record LeavesReady
    (p : List Info) (q : Limits) (r : MethodRef) (site : Site) (f : NumberedFrame)
    (s : NumberedFrames) (u : World) (d : Effect) : Type 0 where
  pub method : MethodAt
  pub callee : IsCallee p method (callee.Method site)
  pub rest : Leaves p (calls_ready p r method q f.room) f s u d

-- ---- what a row comes to

-- By what the code answers at a frame, in one world. Where no row applies, or something is left,
-- the frames are as they were.
abbrev pub InvokedTo :
    List Info → Limits → MethodRef → Invoked → NumberedFrame → NumberedFrames → NumberedFrames →
    World → Effect → Type 0
InvokedTo p q r (invoked.Turned turn.NoRow) f old new u d = (d ≡ NoRow) × (new ≡ old)
InvokedTo p q r (invoked.Turned turn.Goes) f old new u d = Comes p u (frames_of p new) None d
InvokedTo p q r (invoked.Turned (turn.Throws x)) f old new u d =
    Comes p u (frames_of p new) (Some x) d
InvokedTo p q r (invoked.Readies s) f old new u d = LeavesReady p q r s f old u d × (new ≡ old)
InvokedTo p q r (invoked.Native s args) f old new u d =
    LeavesCall p q args.count (callee.Method s) f old u d
    × AreArgs args.count args.words f.stack × (new ≡ old)
InvokedTo p q r (invoked.Copies args) f old new u d =
    LeavesCall p q args.count callee.ArrayClone f old u d
    × AreArgs args.count args.words f.stack × (new ≡ old)

-- What a row comes to, where a frame runs. Where no row applies frames are as they were, and of the
-- world nothing is said here: what the row names may have been consulted.
abbrev pub Invokes :
    List Info → MethodRef → RowOf → Invoked → NumberedFrames → NumberedFrames → World → World →
    Type 0
Invokes p r row t old new w u =
    IfSome old.frame (λ f. (v : def.World) → Means p w v →
    InvokedTo p w.limits r t f old new u (row_at p (row w.limits f.room) f old v))

-- ---- frames

-- A frame is of a class of the program, and its stack has the room that its method states.
pub record IsOfMethod (p : List Info) (f : NumberedFrame) : Type 0 where
  pub class : f.class < length p
  pub room : room_of (look p) (frame_of p f) ≡ Some f.room

-- A method's frame stands on the others, which have lost the arguments.
pub record HasEntered (p : List Info) (old new : NumberedFrames) : Type 0 where
  pub count : ℕ
  pub callers : IsSomeAnd old.frame (λ f. new.callers ≡ cut count f ∷ old.callers)
  pub frame : IsSomeAnd new.frame (IsOfMethod p)

-- The running frame has lost the arguments.
pub record HasCut (old new : NumberedFrames) : Type 0 where
  pub count : ℕ
  pub frames : IsCut count old new

-- What becomes of the frames.
abbrev pub StaysOrEnters : List Info → NumberedFrames → NumberedFrames → Type 0
StaysOrEnters p old new = (new ≡ old) ⊎ HasEntered p old new ⊎ HasCut old new
