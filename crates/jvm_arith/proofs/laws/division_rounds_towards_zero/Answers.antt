use Rattle.jvm_arith.proofs.Wrapping.{divides}
use Rattle.jvm_arith.proofs.laws.division_rounds_towards_zero.Goals as goal

pub returns : goal.returns
returns c = divides
