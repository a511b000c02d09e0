use Rattle.job_laws.proofs.Workers.{one_skips}
use Rattle.job_laws.proofs.one_skips_behind.Goals as goal

pub returns : goal.returns
returns g c = λ say mutants order cl ends gathered asc h a one. one_skips say mutants order cl ends gathered h a asc one
