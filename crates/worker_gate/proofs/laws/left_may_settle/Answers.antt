use Rattle.worker_gate.proofs.Leaving.{may_settle}
use Rattle.worker_gate.proofs.laws.left_may_settle.Goals as goal

pub returns : goal.returns
returns g c = may_settle
