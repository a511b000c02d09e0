use Rattle.std.proofs.Common.{arith}
use Rattle.jvm_link.proofs.Packages.{ends_here, none_left}
use Rattle.jvm_link.proofs.text.package.Goals as goal

pub returns-then-name-end-eq-SLASH : goal.returns-then-name-end-eq-SLASH
returns-then-name-end-eq-SLASH c = ends_here c.args.name.now c.loop-end.end (omega (arith, c.loop-end-test.true)) c.loop-end.invariant.within c.loop-end.invariant.plain c.if-name-end-eq-SLASH.true

pub returns : goal.returns
returns c = none_left c.args.name.now c.loop-end.end (omega (arith, c.loop-end-test.false)) c.loop-end.invariant.plain
