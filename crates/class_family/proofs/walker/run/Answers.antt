use Rattle.std.proofs.Common.{◌≡◌, ◌∙◌, ◌<◌, sym, refl, ap, subst}
use Rattle.class_family.specs.Walks.{order_of, add_in, names_of, wanted, AreTasks, weight}
use Rattle.class_family.proofs.walker.run.Goals as goal

pub make-requires-clause-tasks : goal.make-requires-clause-tasks
make-requires-clause-tasks c = subst (AreTasks (order_of c.args.way) c.args.program.now (names_of c.args.program.now c.loop-task.seen)) c.in-Some.ensures.some c.loop-task.invariant.tasks

pub loop-task-smaller : goal.loop-task-smaller
loop-task-smaller c = subst (λ l. weight (order_of c.args.way) c.args.program.now c.make.new.tasks.items < weight (order_of c.args.way) c.args.program.now l) (sym c.in-Some.ensures.some) c.in_ok-make.ensures.made.less

pub loop-task-preserved : goal.loop-task-preserved
loop-task-preserved c =
    let p = c.args.program.now in
    let order = order_of c.args.way in
    record {
      kept = c.in_ok-make.ensures.kept;
      tasks = c.in_ok-make.ensures.made.tasks;
      names = c.in_ok-make.ensures.made.names ∙ ap (λ l. add_in (wanted order p l) (names_of p c.loop-task.seen)) (sym c.in-Some.ensures.some) ∙ c.loop-task.invariant.names;
    }

pub returns-clause-names : goal.returns-clause-names
returns-clause-names c =
    let p = c.args.program.now in
    ap (λ l. add_in (wanted (order_of c.args.way) p l) (names_of p c.loop-task.seen)) (sym c.in_default.ensures.none) ∙ c.loop-task.invariant.names
