use Rattle.run_journal.proofs.Back.{whole_is_spelled as law}
use Rattle.run_journal.proofs.whole_is_spelled.Goals as goal

pub returns : goal.returns
returns c = law
