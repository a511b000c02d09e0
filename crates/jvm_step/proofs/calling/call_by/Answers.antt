use Rattle.std.proofs.Common.{sym, subst, IfOk}
use Rattle.jvm_step.specs.Steps.{StepsAt, calls_by}
use Rattle.jvm_step.proofs.calling.call_by.Goals as goal

pub returns-in-ClassWide-clause-row : goal.returns-in-ClassWide-clause-row
returns-in-ClassWide-clause-row c =
    subst (λ k. IfOk c.use_class.result (λ t. StepsAt c.args.p.now c.args.site (calls_by c.args.p.now k) t c.use_class.new.frames c.args.world.now c.use_class.new.world))
    (sym c.in-ClassWide.is) c.use_class.ensures.row

pub returns-in-Make-clause-row : goal.returns-in-Make-clause-row
returns-in-Make-clause-row c =
    subst (λ k. IfOk c.use_class-in-Make.result (λ t. StepsAt c.args.p.now c.args.site (calls_by c.args.p.now k) t c.use_class-in-Make.new.frames c.args.world.now c.use_class-in-Make.new.world))
    (sym c.in-Make.is) c.use_class-in-Make.ensures.row
