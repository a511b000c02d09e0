use Rattle.std.proofs.Common.{arith}
use Rattle.type_verifier.proofs.Falling.{last_out, none_out}
use Rattle.type_verifier.proofs.ends.falls_out.Goals as goal

pub returns-else-at-len : goal.returns-else-at-len
returns-else-at-len c s x =
    last_out s c.args.site.now c.args.at c.in-Some.instruction.now c.never_falls.result x c.in-Some.ensures (omega (arith, c.if-at-len.false, c.len.ensures)) c.never_falls.ensures

pub returns-in-None : goal.returns-in-None
returns-in-None c s x = none_out s c.args.site.now c.args.at x c.in-None.ensures
