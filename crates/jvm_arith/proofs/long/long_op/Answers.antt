use Rattle.std.specs.Int.{w64}
use Rattle.std.proofs.lemmas.Int.{wrapping_add_is, wrapping_sub_is}
use Rattle.jvm_arith.proofs.Wrapping.{quotient}
use Rattle.jvm_arith.proofs.long.long_op.Goals as goal

pub returns-in-Plus-clause-some : goal.returns-in-Plus-clause-some
returns-in-Plus-clause-some c = rw c.in-Plus.is (wrapping_add_is w64 c.args.a c.args.b c.ranges.a c.ranges.b)

pub returns-in-Minus-clause-some : goal.returns-in-Minus-clause-some
returns-in-Minus-clause-some c = rw c.in-Minus.is (wrapping_sub_is w64 c.args.a c.args.b c.ranges.a c.ranges.b)

pub returns-in-Divide-2-clause-some : goal.returns-in-Divide-2-clause-some
returns-in-Divide-2-clause-some c = rw c.in-Divide.is (quotient w64 c.args.a c.args.b c.wrapping_div.result c.ranges.a c.ranges.b c.wrapping_div.ensures)
