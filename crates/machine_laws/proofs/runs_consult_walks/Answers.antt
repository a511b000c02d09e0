use Rattle.machine_laws.proofs.Monitors.{steps_walk}
use Rattle.machine_laws.proofs.Walks.{runs_walk}
use Rattle.machine_laws.proofs.runs_consult_walks.Goals as goal

pub returns : goal.returns
returns c = record { steps = steps_walk; runs = runs_walk }
