use Rattle.run_journal.proofs.Spelt.{closing_is_read as law}
use Rattle.run_journal.proofs.closing_is_read.Goals as goal

pub returns : goal.returns
returns c = law
