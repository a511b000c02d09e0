use Rattle.std.proofs.Common.{◌≡◌, length}
use Rattle.class_model.specs.DeclaredName.{is_class_name}
use Rattle.class_model.proofs.declared_name.is_class_name.Given as goal

abbrev pub invariant-loop-part : goal.invariant-loop-part
invariant-loop-part l = is_class_name l.rest ≡ is_class_name l.name

abbrev pub decreases-loop-part : goal.decreases-loop-part
decreases-loop-part l = length l.rest
