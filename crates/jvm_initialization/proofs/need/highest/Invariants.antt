use Rattle.std.proofs.Common.{length}
use Rattle.std.specs.Prelude.{IfSome, IfNone}
use Rattle.class_family.specs.Families.{rising_at}
use Rattle.jvm_initialization.specs.Needs.{IsToBegin, NeedsSame, GoesUp, NeedsAcross}
use Rattle.jvm_initialization.proofs.need.highest.Given as goal

abbrev pub invariant-loop-next : goal.invariant-loop-next
invariant-loop-next l = record {
  fresh : IsToBegin l.p l.world l.here.0;
  same : NeedsSame l.p l.world l.fn.class.0 l.here.0;
  up : IfSome l.next (λ up. GoesUp l.p l.world l.here.0 up.0);
  stop : IfNone l.next (NeedsAcross l.p l.world l.here.0);
}

abbrev pub decreases-loop-next : goal.decreases-loop-next
decreases-loop-next l = length (rising_at l.p l.here.0)
