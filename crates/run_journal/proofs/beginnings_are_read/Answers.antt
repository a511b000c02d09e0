use Rattle.run_journal.proofs.Spelt.{beginnings_are_read as law}
use Rattle.run_journal.proofs.beginnings_are_read.Goals as goal

pub returns : goal.returns
returns c = law
