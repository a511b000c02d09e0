use Rattle.job_laws.proofs.Workers.{workers_end}
use Rattle.job_laws.proofs.workers_end_cells.Goals as goal

pub returns : goal.returns
returns g c = λ say all mutants order cl ends gathered h a. workers_end say all mutants order cl ends gathered h a
