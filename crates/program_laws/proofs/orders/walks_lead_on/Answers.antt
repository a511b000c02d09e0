use Rattle.program_laws.proofs.Walks.{leads}
use Rattle.program_laws.proofs.orders.walks_lead_on.Goals as goal

pub returns : goal.returns
returns c = λ p ok. leads p ok
