use Rattle.std.proofs.Common.{◌≡◌, ◌<◌, length}
use Rattle.std.specs.Prelude.{IfSome}
use Rattle.program_rules.specs.Selection.{first_through, if_virtual}
use Rattle.class_link.specs.View.{method_ref_of}
use Rattle.class_family.specs.Families.{rising_at}
use Rattle.jvm_link.specs.Sites.{rising_from}
use Rattle.jvm_link.proofs.select.first_virtual.Given as goal

abbrev pub invariant-loop-next : goal.invariant-loop-next
invariant-loop-next l = record {
  within : IfSome l.next (λ a. a.0 < length l.program);
  rest : first_through if_virtual (method_ref_of l.reference) (rising_at l.program l.fn.start.0) ≡ first_through if_virtual (method_ref_of l.reference) (rising_from l.program l.next);
}

abbrev pub decreases-loop-next : goal.decreases-loop-next
decreases-loop-next l = length (rising_from l.program l.next)
