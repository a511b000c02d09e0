use Rattle.worker_gate.proofs.Exactly.{settled_exact}
use Rattle.worker_gate.proofs.laws.settled_is_exact.Goals as goal

pub returns : goal.returns
returns g c = settled_exact
