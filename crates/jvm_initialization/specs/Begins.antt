-- The begin of a class (JVMS 5.5), by the class's number.
use Rattle.std.specs.Prelude.{◌≡◌, ◌⊎◌, ℕ, ◌<◌, true, List, [], ◌∷◌, length, Option, None, Some, IfNone, IsSomeAnd}
use Rattle.program_rules.specs.Linked.{LinkedMethod, code_of, method_in}
use Rattle.program_rules.specs.Outlines.{Head, head_of, is_class_initializer}
use Rattle.machine_rules.specs.declared.machine.Limits.{Limits}
use Rattle.machine_rules.specs.State as def
use Rattle.machine_rules.specs.Effects.{Effect}
use Rattle.machine_rules.specs.Calls.{room_in, room_of}
use Rattle.machine_rules.specs.Initialisation as rules
use Rattle.class_link.specs.Info.{Info}
use Rattle.class_table.specs.Table.{look, name_at}
use Rattle.class_family.specs.Families.{node_of}
use Rattle.jvm_frames.specs.Frames.{NumberedFrame, NumberedFrames, begun}
use Rattle.jvm_unwind.specs.Turns.{frame_of, frames_of}
use Rattle.jvm_initialization.specs.declared.initializer.Code.{Code}
use Rattle.jvm_initialization.specs.declared.initializer.Initializer.{Initializer}
use Rattle.jvm_initialization.specs.Constants.{Setting}

-- ---- what a begin does

-- What the begin of the class of a number does.
abbrev pub begin_at : List Info → ℕ → rules.ClassBegin
begin_at p a = rules.beginning_of (node_of (look p) (name_at p a))

-- All constants of a class are set.
abbrev pub setting_at : List Info → Limits → ℕ → Setting
setting_at p q a = rules.sets_constants q (name_at p a) (begin_at p a).constants

-- ---- initializers

-- A method is the initializer of its class, with this code.
pub record IsInitializer (m : LinkedMethod) (c : Code) : Type 0 where
  pub right : is_class_initializer m ≡ true
  pub locals : rules.locals_in (head_of m).callable ≡ c.max_locals
  pub room : room_in (code_of (Some m)) ≡ Some c.max_stack

-- The initializer of a class by number, as the definitions have it.
abbrev pub initializer_of : Initializer → rules.Initializer
initializer_of i = record { place = i.place; max_locals = i.max_locals }

-- The first initializer among these methods, with the room of its stack.
pub record IsFirst (hs : List Head) (m : Option LinkedMethod) (i : Initializer) : Type 0 where
  pub first : rules.initializer_from 0 hs ≡ Some (initializer_of i)
  pub room : room_in (code_of m) ≡ Some i.max_stack

-- The initializer of the class of a number.
pub record IsInitializerAt (p : List Info) (a : ℕ) (i : Initializer) : Type 0 where
  pub initializer : (begin_at p a).initializer ≡ Some (initializer_of i)
  pub room : room_in (code_of (method_in (look p (name_at p a)) i.place)) ≡ Some i.max_stack

-- ---- frames

-- The frame that runs, if one does, and those below it.
abbrev pub all_on : Option NumberedFrame → List NumberedFrame → List NumberedFrame
all_on None fs = fs
all_on (Some f) fs = f ∷ fs

abbrev pub all_of : NumberedFrames → List NumberedFrame
all_of s = all_on s.frame s.callers

-- Where no frame runs there is none.
abbrev pub AreWhole : NumberedFrames → Type 0
AreWhole s = IfNone s.frame (s.callers ≡ [])

-- The frame of an initializer stands on these frames.
abbrev pub entered : ℕ → Initializer → NumberedFrames → NumberedFrames
entered class i old = record {
  frame = Some (begun class i.place i.max_locals [] i.max_stack);
  callers = all_of old;
}

-- A frame is of a class of the program, and its stack has the room that its method states.
pub record IsOfMethod (p : List Info) (f : NumberedFrame) : Type 0 where
  pub class : f.class < length p
  pub room : room_of (look p) (frame_of p f) ≡ Some f.room

-- A method's frame stands on the others.
pub record HasBegun (p : List Info) (old new : NumberedFrames) : Type 0 where
  pub callers : new.callers ≡ all_of old
  pub frame : IsSomeAnd new.frame (IsOfMethod p)

-- What becomes of the frames.
abbrev pub StaysOrBegins : List Info → NumberedFrames → NumberedFrames → Type 0
StaysOrBegins p old new = (new ≡ old) ⊎ HasBegun p old new

-- The begin of a class, over these frames.
abbrev pub beginning : List Info → Limits → ℕ → NumberedFrames → def.World → Effect
beginning p q a s = λ v. rules.begins q v (frames_of p s) (begin_at p a)
