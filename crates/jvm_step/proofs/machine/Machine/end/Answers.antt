use Rattle.jvm_step.proofs.Ends.{tells_end}
use Rattle.jvm_step.proofs.machine.Machine.end.Goals as goal

pub returns-clause-tells : goal.returns-clause-tells
returns-clause-tells c = tells_end c.args.p.now c.args.self.now c.end_of.result c.end_of.ensures
