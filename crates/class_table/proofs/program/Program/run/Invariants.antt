use Rattle.std.proofs.Common.{◌≡◌}
use Rattle.program_rules.specs.Programs.{consult_in}
use Rattle.class_table.specs.Seen.{IsConsultedOf}
use Rattle.class_table.specs.Table.{look}
use Rattle.class_table.specs.Walked.{wanted, AreTasks, weight}
use Rattle.class_table.proofs.program.Program.run.Given as goal

abbrev pub invariant-loop-task : goal.invariant-loop-task
invariant-loop-task l = record {
  kept : IsConsultedOf l.self l.seen;
  tasks : AreTasks l.self l.seen.names l.tasks.items;
  names : consult_in (look l.self) (wanted l.self l.tasks.items) l.seen.names ≡ consult_in (look l.self) (wanted l.self l.fn.tasks.items) l.fn.seen.names;
}

abbrev pub decreases-loop-task : goal.decreases-loop-task
decreases-loop-task l = weight l.self l.tasks.items
