use Rattle.test_laws.proofs.Ending.{ends}
use Rattle.test_laws.proofs.rising_ends.Goals as goal

pub returns : goal.returns
returns c = ends
