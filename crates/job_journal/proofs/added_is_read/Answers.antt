use Rattle.job_journal.proofs.Added.{added_is_read as law}
use Rattle.job_journal.proofs.added_is_read.Goals as goal

pub returns : goal.returns
returns c = law
