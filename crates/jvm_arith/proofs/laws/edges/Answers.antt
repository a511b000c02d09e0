use Rattle.std.proofs.Common.{refl}
use Rattle.std.specs.Int.{int_wrap}
use Rattle.jvm_arith.proofs.laws.edges.Goals as goal

pub returns-clause-least_int : goal.returns-clause-least_int
unfolding int_wrap
returns-clause-least_int c = refl

pub returns-clause-least_long : goal.returns-clause-least_long
unfolding int_wrap
returns-clause-least_long c = refl

pub returns-clause-back_shift : goal.returns-clause-back_shift
unfolding int_wrap
returns-clause-back_shift c = refl
