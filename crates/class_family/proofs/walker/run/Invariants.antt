use Rattle.std.proofs.Common.{◌≡◌}
use Rattle.class_family.specs.Walks.{order_of, add_in, names_of, wanted, AreTasks, weight, IsSeen}
use Rattle.class_family.proofs.walker.run.Given as goal

abbrev pub invariant-loop-task : goal.invariant-loop-task
invariant-loop-task l = record {
  kept : IsSeen (order_of l.way) l.program l.seen;
  tasks : AreTasks (order_of l.way) l.program (names_of l.program l.seen) l.tasks.items;
  names : add_in (wanted (order_of l.way) l.program l.tasks.items) (names_of l.program l.seen) ≡ add_in (wanted (order_of l.way) l.program l.fn.tasks.items) (names_of l.program l.fn.seen);
}

abbrev pub decreases-loop-task : goal.decreases-loop-task
decreases-loop-task l = weight (order_of l.way) l.program l.tasks.items
