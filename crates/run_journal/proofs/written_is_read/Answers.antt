use Rattle.run_journal.proofs.Spelt.{written_is_read as law}
use Rattle.run_journal.proofs.written_is_read.Goals as goal

pub returns : goal.returns
returns c = law
