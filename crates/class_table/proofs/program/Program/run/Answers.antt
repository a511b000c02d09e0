use Rattle.std.proofs.Common.{◌∙◌, ◌<◌, sym, ap, subst}
use Rattle.program_rules.specs.Programs.{consult_in}
use Rattle.class_table.specs.Table.{look}
use Rattle.class_table.specs.Walked.{wanted, AreTasks, weight}
use Rattle.class_table.proofs.program.Program.run.Goals as goal

pub make-requires-clause-tasks : goal.make-requires-clause-tasks
make-requires-clause-tasks c = subst (AreTasks c.args.self.now c.loop-task.seen.names) c.in-Some.ensures.some c.loop-task.invariant.tasks

pub loop-task-smaller : goal.loop-task-smaller
loop-task-smaller c = subst (λ l. weight c.args.self.now c.make.new.tasks.items < weight c.args.self.now l) (sym c.in-Some.ensures.some) c.in_ok-make.ensures.made.less

pub loop-task-preserved : goal.loop-task-preserved
loop-task-preserved c =
    let p = c.args.self.now in
    record {
      kept = c.in_ok-make.ensures.kept;
      tasks = c.in_ok-make.ensures.made.tasks;
      names = c.in_ok-make.ensures.made.names ∙ ap (λ l. consult_in (look p) (wanted p l) c.loop-task.seen.names) (sym c.in-Some.ensures.some) ∙ c.loop-task.invariant.names;
    }

pub returns-clause-names : goal.returns-clause-names
returns-clause-names c =
    let p = c.args.self.now in
    ap (λ l. consult_in (look p) (wanted p l) c.loop-task.seen.names) (sym c.in_default.ensures.none) ∙ c.loop-task.invariant.names
