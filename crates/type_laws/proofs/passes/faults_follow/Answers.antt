use Rattle.type_laws.proofs.Entering.{fault_step, fault_end}
use Rattle.type_laws.proofs.passes.faults_follow.Goals as goal

pub returns : goal.returns
returns c = record { next = fault_step; end = fault_end }
