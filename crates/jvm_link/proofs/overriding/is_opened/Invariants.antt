use Rattle.std.proofs.Common.{◌≡◌, ◌-◌, length, drop}
use Rattle.class_link.specs.View.{method_ref_of}
use Rattle.jvm_link.proofs.Reaching.{opened_in}
use Rattle.jvm_link.proofs.overriding.is_opened.Given as goal

abbrev pub invariant-loop-at : goal.invariant-loop-at
invariant-loop-at l =
    opened_in l.program (method_ref_of l.reference) l.over.0 l.classes l.class.0 l.classes
    ≡ opened_in l.program (method_ref_of l.reference) l.over.0 l.classes l.class.0 (drop l.at l.classes)

abbrev pub decreases-loop-at : goal.decreases-loop-at
decreases-loop-at l = length l.classes - l.at
