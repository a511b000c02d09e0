use Rattle.mutator_ops.proofs.Listed as law
use Rattle.mutator_ops.proofs.laws.listed_in_order.Goals as goal

pub returns : goal.returns
returns c = law.listed_in_order
