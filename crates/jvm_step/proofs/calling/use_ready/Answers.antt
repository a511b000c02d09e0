use Rattle.std.proofs.Common.{sym, subst, IfOk}
use Rattle.jvm_step.specs.Steps.{StepsAt, uses_ready}
use Rattle.jvm_step.proofs.calling.use_ready.Goals as goal

pub returns-in-CallStatic-clause-row : goal.returns-in-CallStatic-clause-row
returns-in-CallStatic-clause-row c =
    subst (λ k. IfOk c.enter.result (λ t. StepsAt c.args.p.now c.args.site (uses_ready c.args.p.now c.args.site k) t c.enter.new.frames c.args.world.now c.enter.new.world))
    (sym c.in-CallStatic.is) c.enter.ensures.row

pub returns-in-MakeInstance-clause-row : goal.returns-in-MakeInstance-clause-row
returns-in-MakeInstance-clause-row c =
    subst (λ k. IfOk c.make.result (λ t. StepsAt c.args.p.now c.args.site (uses_ready c.args.p.now c.args.site k) t c.make.new.frames c.args.world.now c.make.new.world))
    (sym c.in-MakeInstance.is) c.make.ensures.row
