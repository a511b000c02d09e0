use Rattle.std.proofs.Common.{◌∙◌, sym}
use Rattle.type_verifier.proofs.Nexts.{stack_fits, stack_unfit}
use Rattle.type_verifier.proofs.steps.stack_of.Goals as goal

pub returns-in_ok-stack : goal.returns-in_ok-stack
returns-in_ok-stack c = stack_fits c.args.method.now c.args.types.now c.in_ok-stack.stack (sym c.fit.ensures ∙ c.if-fit.true) c.in_ok-stack.ensures

pub returns-else-fit : goal.returns-else-fit
returns-else-fit c = stack_unfit c.args.method.now c.args.types.now (sym c.fit.ensures ∙ c.if-fit.false)
