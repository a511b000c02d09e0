use Rattle.std.proofs.Common.{sym, refl, subst}
use Rattle.class_family.specs.Walks.{EntersAbove}
use Rattle.class_family.proofs.Several.{no_task, next_tasks, all_tasks}
use Rattle.class_family.proofs.walker.enter_above.Goals as goal

pub loop-at-init : goal.loop-at-init
loop-at-init c = subst (EntersAbove c.args.program.now _) (sym c.requires.tasks) (no_task c.args.program.now c.len-len.ensures.form)

pub enter_steps-requires : goal.enter_steps-requires
enter_steps-requires c = c.requires.within c.loop-at.at c.class_at-number.result c.class_at-number.ensures

pub loop-at-preserved : goal.loop-at-preserved
loop-at-preserved c = next_tasks c.args.program.now c.len-len.ensures.form c.args.classes.now c.loop-at.at _ c.class_at-number.result c.loop-at.tasks.items c.enter_steps.new.tasks.items refl c.class_at-number.ensures c.loop-at.invariant c.in_ok-enter_steps.ensures

pub returns : goal.returns
returns c = all_tasks c.args.program.now c.len-len.ensures.form c.args.classes.now c.loop-at.at c.loop-at.tasks.items c.loop-at-test.false c.loop-at.invariant
