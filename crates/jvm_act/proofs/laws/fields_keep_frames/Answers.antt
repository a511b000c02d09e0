use Rattle.jvm_act.proofs.Framed.{fields_keep_frames}
use Rattle.jvm_act.proofs.laws.fields_keep_frames.Goals as goal

pub returns : goal.returns
returns c = fields_keep_frames
