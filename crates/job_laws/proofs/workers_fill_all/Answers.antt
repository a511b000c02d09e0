use Rattle.job_laws.proofs.Filled.{fills}
use Rattle.job_laws.proofs.workers_fill_all.Goals as goal

pub returns : goal.returns
returns g c = λ say steps all mutants order cl ends h long. fills say steps all mutants order cl ends h long
