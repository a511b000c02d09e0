use Rattle.std.proofs.Common.{◌≡◌, ◌<◌, length}
use Rattle.std.specs.Prelude.{IfSome}
use Rattle.class_link.specs.View.{method_ref_of}
use Rattle.jvm_link.specs.Sites.{rising_from}
use Rattle.jvm_link.proofs.Virtual.{StillFirst, ShutFrom}
use Rattle.jvm_link.proofs.select.first_overriding.Given as goal

abbrev pub invariant-loop-next : goal.invariant-loop-next
invariant-loop-next l = record {
  within : IfSome l.next (λ a. a.0 < length l.program);
  rest : StillFirst l.program (method_ref_of l.reference) l.over.0 l.wide l.classes l.fn.start.0 l.next;
  shut : ShutFrom l.program (method_ref_of l.reference) l.over.0 l.wide l.classes l.shut l.next;
}

abbrev pub decreases-loop-next : goal.decreases-loop-next
decreases-loop-next l = length (rising_from l.program l.next)
