use Rattle.std.proofs.Common.{◌≡◌, ◌≤◌, ◌+◌, length, map, drop}
use Rattle.class_link.specs.View.{field_of}
use Rattle.jvm_layout.specs.Layouts.{own_values}
use Rattle.jvm_layout.proofs.fields.count_own.Given as goal

abbrev pub invariant-loop-left : goal.invariant-loop-left
invariant-loop-left l = (l.count ≡ length (own_values l.all_static (map field_of (drop l.left l.fields)))) × (l.count + l.left ≤ length l.fields)

abbrev pub decreases-loop-left : goal.decreases-loop-left
decreases-loop-left l = l.left
