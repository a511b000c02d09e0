use Rattle.program_laws.proofs.Walks.{laid_out}
use Rattle.program_laws.proofs.orders.ordered_has_layout.Goals as goal

pub returns : goal.returns
returns c = λ p ok. laid_out p ok
