use Rattle.mutator_ops.proofs.Among as law
use Rattle.mutator_ops.proofs.laws.among_once.Goals as goal

pub returns : goal.returns
returns c = law.among_once
