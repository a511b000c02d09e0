use Rattle.std.proofs.Common.{◌≡◌, ◌≤◌, ◌++◌, length, drop}
use Rattle.class_table.specs.Walked.{visits_of}
use Rattle.class_table.proofs.tasks.push_visits.Given as goal

abbrev pub invariant-loop-left : goal.invariant-loop-left
invariant-loop-left l = (l.tasks.items ≡ l.fn.tasks.items ++ visits_of (drop l.left l.classes)) × (l.left ≤ length l.classes)

abbrev pub decreases-loop-left : goal.decreases-loop-left
decreases-loop-left l = l.left
