-- What is known of the frames of a machine between two steps.
use Rattle.std.specs.Prelude.{◌≡◌, ℕ, ◌+◌, ◌<◌, ◌^◌, All, List, IfSome}
use Rattle.class_link.specs.Info.{Info}
use Rattle.jvm_frames.specs.Frames.{NumberedFrame, NumberedFrames}
use Rattle.jvm_initialization.specs.Begins.{AreWhole}
use Rattle.jvm_invokes.specs.Invoked.{IsOfMethod}

-- There is a number for the instruction behind the one at which a frame stands.
abbrev pub HasNext : NumberedFrame → Type 0
HasNext f = f.at + 1 < 2 ^ 64

-- A frame waits at its call: it is of a method of the program, with the room that this states.
pub record Waits (p : List Info) (f : NumberedFrame) : Type 0 where
  pub method : IsOfMethod p f
  pub next : HasNext f

-- The frame that runs, if one does, is of a method of the program, those below it wait, and none
-- does where none runs.
pub record AreFramesOf (p : List Info) (s : NumberedFrames) : Type 0 where
  pub running : IfSome s.frame (IsOfMethod p)
  pub below : All (Waits p) s.callers
  pub whole : AreWhole s
