use Rattle.job_journal.proofs.Standing.{stops_lose_nothing as law}
use Rattle.job_journal.proofs.stops_lose_nothing.Goals as goal

pub returns : goal.returns
returns c = law
