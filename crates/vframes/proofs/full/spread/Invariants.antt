use Rattle.std.proofs.Common.{◌≡◌, ◌++◌, List, reverse, length}
use Rattle.type_rules.specs.Frames.{with_tops}
use Rattle.vframes.specs.declared.named.Named.{Named}
use Rattle.vframes.specs.View.{types_in}
use Rattle.vframes.proofs.full.spread.Given as goal

abbrev pub invariant-loop-t : goal.invariant-loop-t
invariant-loop-t l =
    (ns : List Named) → types_in ns l.all.items ++ with_tops (types_in ns (reverse l.items.items)) ≡ with_tops (types_in ns (reverse l.fn.down.items))

abbrev pub decreases-loop-t : goal.decreases-loop-t
decreases-loop-t l = length l.items.items
