use Rattle.program_laws.proofs.Built.{built}
use Rattle.program_laws.proofs.orders.ordered_is_built.Goals as goal

pub returns : goal.returns
returns c = λ p ok arrays. built p ok arrays
