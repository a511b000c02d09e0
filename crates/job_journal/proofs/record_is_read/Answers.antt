use Rattle.job_journal.proofs.Again.{record_is_read as law}
use Rattle.job_journal.proofs.record_is_read.Goals as goal

pub returns : goal.returns
returns c = law
