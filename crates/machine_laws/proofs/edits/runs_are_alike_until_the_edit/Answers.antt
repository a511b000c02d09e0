use Rattle.machine_laws.proofs.Lockstep.{step_alike, run_alike}
use Rattle.machine_laws.proofs.edits.runs_are_alike_until_the_edit.Goals as goal

pub returns : goal.returns
returns c = record { steps = step_alike; runs = run_alike }
