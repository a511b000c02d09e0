use Rattle.std.proofs.Common.{◌+◌, ◌-◌, length}
use Rattle.type_verifier.specs.Expansions.{IsLonger}
use Rattle.type_verifier.proofs.table.lengthen.Given as goal

abbrev pub invariant-loop-frames : goal.invariant-loop-frames
invariant-loop-frames l = IsLonger l.fn.frames.items l.frames.items

abbrev pub decreases-loop-frames : goal.decreases-loop-frames
decreases-loop-frames l = (l.at + 1) - length l.frames.items
