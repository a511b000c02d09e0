use Rattle.std.proofs.Common.{map}
use Rattle.std.specs.Arc.{arc_value}
use Rattle.class_table.specs.Flaws.{IsLeastUpTo}
use Rattle.class_table.proofs.least.least_at.Given as goal

abbrev pub invariant-loop-i : goal.invariant-loop-i
invariant-loop-i l = IsLeastUpTo l.flaw (map (λ i. arc_value i) l.infos) l.found l.i l.least
