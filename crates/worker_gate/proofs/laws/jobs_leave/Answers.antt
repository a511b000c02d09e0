use Rattle.worker_gate.proofs.Leaving.{jobs_leave}
use Rattle.worker_gate.proofs.laws.jobs_leave.Goals as goal

pub returns : goal.returns
returns g c = jobs_leave
