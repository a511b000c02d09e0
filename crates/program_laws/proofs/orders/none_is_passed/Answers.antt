use Rattle.program_laws.proofs.Walks.{none_passed}
use Rattle.program_laws.proofs.orders.none_is_passed.Goals as goal

pub returns : goal.returns
returns c = none_passed
