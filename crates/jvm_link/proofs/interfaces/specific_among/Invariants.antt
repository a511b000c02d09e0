use Rattle.std.proofs.Common.{◌-◌, length, take}
use Rattle.jvm_link.specs.Candidates.{IsSpecific, specific_of}
use Rattle.jvm_link.proofs.interfaces.specific_among.Given as goal

abbrev pub invariant-loop-at : goal.invariant-loop-at
invariant-loop-at l = IsSpecific l.program (specific_of l.program l.name l.desc l.above (take l.at l.found)) l.specific

abbrev pub decreases-loop-at : goal.decreases-loop-at
decreases-loop-at l = length l.found - l.at
