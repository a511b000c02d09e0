use Rattle.std.proofs.Common.{◌≡◌, length, map}
use Rattle.type_rules.specs.Rows.{declares}
use Rattle.class_link.specs.View.{field_of}
use Rattle.type_verifier.proofs.meanings.declares.Given as goal

abbrev pub invariant-loop-left : goal.invariant-loop-left
invariant-loop-left l = declares l.r.name l.r.desc (map field_of l.left) ≡ declares l.r.name l.r.desc (map field_of l.fn.fields)

abbrev pub decreases-loop-left : goal.decreases-loop-left
decreases-loop-left l = length l.left
