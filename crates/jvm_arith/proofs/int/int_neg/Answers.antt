use Rattle.std.proofs.Common.{rules}
use Rattle.std.proofs.lemmas.Int.{wraps}
use Rattle.jvm_arith.proofs.int.int_neg.Goals as goal

pub returns : goal.returns
returns c = search (rules, wraps)
