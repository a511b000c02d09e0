use Rattle.jvm_act.proofs.Turns.{fields_are_turned}
use Rattle.jvm_act.proofs.laws.fields_are_turned.Goals as goal

pub returns : goal.returns
returns c = fields_are_turned
