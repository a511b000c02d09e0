use Rattle.std.proofs.Common.{◌≡◌, List}
use Rattle.program_rules.specs.Types.{VType}
use Rattle.type_rules.specs.Rows.{Checked, takes_ints}
use Rattle.vframes.specs.declared.named.Named.{Named}
use Rattle.vframes.specs.View.{types_in}
use Rattle.type_rows.proofs.array_rows.take_ints.Given as goal

abbrev pub invariant-loop-left : goal.invariant-loop-left
invariant-loop-left l =
    (ns : List Named) (go : List VType → Checked)
    → takes_ints l.count (types_in ns l.fn.stack) go ≡ takes_ints l.left (types_in ns l.stack) go

abbrev pub decreases-loop-left : goal.decreases-loop-left
decreases-loop-left l = l.left
