use Rattle.job_journal.proofs.Again.{written_tells_records as law}
use Rattle.job_journal.proofs.written_tells_records.Goals as goal

pub returns : goal.returns
returns c = law
