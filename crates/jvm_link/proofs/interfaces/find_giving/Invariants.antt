use Rattle.std.proofs.Common.{◌-◌, length, take}
use Rattle.jvm_link.specs.Candidates.{AreGiving}
use Rattle.jvm_link.proofs.interfaces.find_giving.Given as goal

abbrev pub invariant-loop-at : goal.invariant-loop-at
invariant-loop-at l = AreGiving l.program l.name l.desc (take l.at l.classes) l.found.items

abbrev pub decreases-loop-at : goal.decreases-loop-at
decreases-loop-at l = length l.classes - l.at
