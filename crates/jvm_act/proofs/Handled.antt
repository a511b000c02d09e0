-- An object is thrown in a frame of a method with code.
use Rattle.std.proofs.Common.{◌≡◌, ℕ, List, Option, None, Some, IfSome, IsSomeAnd}
use Rattle.class_link.specs.Info.{Info}
use Rattle.jvm_frames.specs.Frames.{NumberedFrame, NumberedFrames}
use Rattle.jvm_world.specs.declared.world.World.{World}
use Rattle.jvm_unwind.specs.declared.turn.Turn.{Turn}
use Rattle.jvm_unwind.specs.Turns.{Turns}
use Rattle.jvm_unwind.specs.Unwinding.{IsHandled, IsLeftOrOn, unwinding}
use Rattle.jvm_invokes.specs.Invoked.{IsOfMethod}
use Rattle.jvm_act.specs.declared.methods.MethodCode.{MethodCode}
use Rattle.jvm_act.specs.Methods.{IsCodeOf}
use Rattle.jvm_act.specs.Turned.{Turned}
use Rattle.jvm_act.specs.Standing.{AreFramesOf}
use Rattle.jvm_act.specs.Laws.{HasRoomToLand}
use Rattle.jvm_act.specs.Acts.{RunsCode, throwing_row}
use Rattle.jvm_act.proofs.Coded.{frames_are_handled}
use Rattle.jvm_act.proofs.Framed.{throws_keep_frames}
use Rattle.jvm_act.proofs.Turns.{turns_are_turned}

handled_at : (p : List Info) (m : MethodCode) (o : Option NumberedFrame) → IsSomeAnd o (λ f. IsCodeOf p f.class f.method m) → IfSome o (IsOfMethod p) → HasRoomToLand m → IfSome o (IsHandled p m.handlers)
handled_at p m None runs of room = tt
handled_at p m (Some f) runs of room = frames_are_handled p m f runs of room

pub handled : (p : List Info) (m : MethodCode) (s : NumberedFrames) → RunsCode p m s → AreFramesOf p s → HasRoomToLand m → IfSome s.frame (IsHandled p m.handlers)
handled p m s runs are room = handled_at p m s.frame runs are.running room

runs_at : (p : List Info) (m : MethodCode) (o : Option NumberedFrame) → IsSomeAnd o (λ f. IsCodeOf p f.class f.method m) → IfSome o (IsOfMethod p) → IsSomeAnd o (IsOfMethod p)
runs_at p m None runs of = absurd runs
runs_at p m (Some f) runs of = of

pub keeps : (p : List Info) (m : MethodCode) (old new : NumberedFrames) → RunsCode p m old → IsLeftOrOn old new → AreFramesOf p old → AreFramesOf p new
keeps p m old new runs h are = throws_keep_frames p old new (runs_at p m old.frame runs are.running) h are

pub turned : (p : List Info) (x : ℕ) (t : Turn) (old new : NumberedFrames) (w u : World) → Turns p (unwinding p w.limits x) t old new w u → Turned p (throwing_row p x) t old new w u
turned p x t old new w u h = turns_are_turned p (unwinding p w.limits x) t old new w u h
