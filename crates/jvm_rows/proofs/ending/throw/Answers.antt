use Rattle.std.proofs.Common.{subst}
use Rattle.jvm_world.specs.View.{Throws}
use Rattle.jvm_rows.proofs.Ends.{thrown_runs, over_runs}
use Rattle.jvm_rows.proofs.ending.throw.Goals as goal

pub returns-in-Some-clause-throws : goal.returns-in-Some-clause-throws
returns-in-Some-clause-throws c = λ fs. thrown_runs c.args.p.now c.args.fault c.in-Some.x fs c.args.world.now c.throw.new.self (subst (Throws c.args.p.now c.args.world.now c.throw.new.self c.args.fault) c.in-Some.is c.in_ok-thrown.ensures.throws)

pub returns-in-None-clause-throws : goal.returns-in-None-clause-throws
returns-in-None-clause-throws c = λ fs. over_runs c.args.p.now c.args.fault fs c.args.world.now c.throw.new.self (subst (Throws c.args.p.now c.args.world.now c.throw.new.self c.args.fault) c.in-None.is c.in_ok-thrown.ensures.throws)
