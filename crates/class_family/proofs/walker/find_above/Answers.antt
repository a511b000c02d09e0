use Rattle.class_family.specs.Walks.{names_of}
use Rattle.class_family.proofs.Several.{tasks_entered, above_found}
use Rattle.class_family.proofs.walker.find_above.Goals as goal

pub run-requires-clause-tasks : goal.run-requires-clause-tasks
run-requires-clause-tasks c = tasks_entered c.args.program.now c.len-len.ensures.form c.args.classes.now c.enter_above.new.tasks.items (names_of c.args.program.now c.args.seen.now) c.in_ok-enter_above.ensures

pub returns : goal.returns
returns c = above_found c.args.program.now c.len-len.ensures.form c.args.classes.now c.enter_above.new.tasks.items c.args.seen.now c.run.new.seen c.in_ok-enter_above.ensures c.requires.found c.in_ok-run.ensures.names c.in_ok-run.ensures.kept
