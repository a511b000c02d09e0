use Rattle.std.proofs.Common.{length, ◌-◌}
use Rattle.vframes.specs.Sweeps.{KeepsReached}
use Rattle.vframes.proofs.sweep.Sweep.open_up.Given as goal

abbrev pub invariant-loop-self : goal.invariant-loop-self
invariant-loop-self l = KeepsReached l.at l.fn.self l.self

abbrev pub decreases-loop-self : goal.decreases-loop-self
decreases-loop-self l = length l.self.rows.items - l.self.next
