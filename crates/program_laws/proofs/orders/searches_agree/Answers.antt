use Rattle.program_laws.proofs.Walks.{agree}
use Rattle.program_laws.proofs.orders.searches_agree.Goals as goal

pub returns : goal.returns
returns g c = λ p ok. agree p ok
