use Rattle.machine_laws.proofs.Monitors.{steps_open, starts_open, runs_open}
use Rattle.machine_laws.proofs.steps_open_one_monitor.Goals as goal

pub returns : goal.returns
returns c = record { steps = steps_open; start = starts_open; runs = runs_open }
