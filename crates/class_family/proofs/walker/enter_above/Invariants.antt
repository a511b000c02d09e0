use Rattle.std.proofs.Common.{◌-◌, length, take}
use Rattle.class_family.specs.Walks.{EntersAbove}
use Rattle.class_family.proofs.walker.enter_above.Given as goal

abbrev pub invariant-loop-at : goal.invariant-loop-at
invariant-loop-at l = EntersAbove l.program (take l.at l.classes) l.tasks.items

abbrev pub decreases-loop-at : goal.decreases-loop-at
decreases-loop-at l = length l.classes - l.at
