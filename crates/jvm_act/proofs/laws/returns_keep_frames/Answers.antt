use Rattle.jvm_act.proofs.Framed.{returns_keep_frames}
use Rattle.jvm_act.proofs.laws.returns_keep_frames.Goals as goal

pub returns : goal.returns
returns c = returns_keep_frames
