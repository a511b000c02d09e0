use Rattle.std.proofs.Common.{◌<◌, length}
use Rattle.std.specs.Prelude.{IfSome}
use Rattle.jvm_layout.specs.Layouts.{Climbs, rising_from}
use Rattle.jvm_layout.proofs.layout.climb.Given as goal

abbrev pub invariant-loop-next : goal.invariant-loop-next
invariant-loop-next l = record {
  within : IfSome l.next (λ a. a.0 < length l.p);
  climbs : Climbs l.p l.fn.class.0 l.next l.values.items l.extra;
}

abbrev pub decreases-loop-next : goal.decreases-loop-next
decreases-loop-next l = length (rising_from l.p l.next)
