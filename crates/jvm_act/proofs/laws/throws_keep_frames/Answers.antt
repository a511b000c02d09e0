use Rattle.jvm_act.proofs.Framed.{throws_keep_frames}
use Rattle.jvm_act.proofs.laws.throws_keep_frames.Goals as goal

pub returns : goal.returns
returns c = throws_keep_frames
