use Rattle.program_laws.proofs.Walks.{tops}
use Rattle.program_laws.proofs.orders.tops_are_object.Goals as goal

pub returns : goal.returns
returns c = λ p ok. tops p ok
