use Rattle.jvm_act.proofs.Coded.{frames_are_handled}
use Rattle.jvm_act.proofs.laws.frames_are_handled.Goals as goal

pub returns : goal.returns
returns c = frames_are_handled
