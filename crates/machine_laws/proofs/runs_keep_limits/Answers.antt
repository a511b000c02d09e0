use Rattle.machine_laws.proofs.Walks.{runs_keep}
use Rattle.machine_laws.proofs.runs_keep_limits.Goals as goal

pub returns : goal.returns
returns c = runs_keep
