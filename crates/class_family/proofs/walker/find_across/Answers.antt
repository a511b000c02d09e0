use Rattle.class_family.specs.Walks.{names_of}
use Rattle.class_family.proofs.Several.{across_tasks, across_found}
use Rattle.class_family.proofs.walker.find_across.Goals as goal

pub run-requires-clause-tasks : goal.run-requires-clause-tasks
run-requires-clause-tasks c = across_tasks c.args.program.now c.args.id.0 c.args.tasks.now.items c.enter_interfaces.new.tasks.items (names_of c.args.program.now c.args.seen.now) c.in_ok-enter_interfaces.ensures c.requires.tasks

pub returns : goal.returns
returns c = across_found c.args.program.now c.args.id.0 c.args.tasks.now.items c.enter_interfaces.new.tasks.items c.args.seen.now c.run.new.seen c.in_ok-enter_interfaces.ensures c.requires.tasks c.requires.found c.in_ok-run.ensures.names c.in_ok-run.ensures.kept
