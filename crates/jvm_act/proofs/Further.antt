-- The turn of an instruction, by the row of its group.
use Rattle.std.proofs.Common.{ℕ, List, IsSomeAnd}
use Rattle.class_link.specs.Info.{Info}
use Rattle.jvm_state.specs.declared.op.Op.{Op}
use Rattle.jvm_frames.specs.Frames.{NumberedFrames}
use Rattle.jvm_world.specs.declared.world.World.{World}
use Rattle.jvm_rows.proofs.Ends.{some_and}
use Rattle.jvm_unwind.specs.declared.turn.Turn.{Turn}
use Rattle.jvm_act.specs.declared.methods.MethodCode.{MethodCode}
use Rattle.jvm_act.specs.Acts.{StandsAtOp, TurnsIn, acting}
use Rattle.jvm_act.specs.Calls.{StandsIn}
use Rattle.jvm_act.specs.Methods.{meaning}
use Rattle.jvm_act.specs.Standing.{AreFramesOf}
use Rattle.jvm_act.specs.Turned.{Turned}
use Rattle.jvm_act.proofs.Executed.{done}

pub stands_in : (p : List Info) (m : MethodCode) (class : ℕ) (op : Op) (old : NumberedFrames) → IsSomeAnd old.frame (StandsAtOp p class m op) → IsSomeAnd old.frame (StandsIn class)
stands_in p m class op old stands =
    some_and old.frame (StandsAtOp p class m op) (StandsIn class) (λ f k. record { class = k.class; next = k.next }) stands

pub turned : (p : List Info) (m : MethodCode) (class : ℕ) (op : Op) (t : Turn) (old new : NumberedFrames) (w u : World) → IsSomeAnd old.frame (StandsAtOp p class m op) → AreFramesOf p old → TurnsIn p m (meaning p class m op) t old new w u → Turned p (acting p) t old new w u
turned p m class op t old new w u stands are h = done p m class op old stands t new w u are h
