use Rattle.program_laws.proofs.Walks.{first_found}
use Rattle.program_laws.proofs.orders.firsts_are_found.Goals as goal

pub returns : goal.returns
returns g c = λ p ok. first_found p ok
