use Rattle.std.proofs.Common.{◌≡◌, ◌<◌, ◌+◌, length}
use Rattle.std.specs.Prelude.{IfSome}
use Rattle.program_rules.specs.Layout.{values_of}
use Rattle.jvm_layout.specs.Layouts.{rising_from}
use Rattle.jvm_layout.proofs.slots.count_up.Given as goal

abbrev pub invariant-loop-next : goal.invariant-loop-next
invariant-loop-next l = record {
  within : IfSome l.next (λ a. a.0 < length l.p);
  count : l.count + length (values_of (rising_from l.p l.next)) ≡ l.own + length (values_of (rising_from l.p l.fn.from));
}

abbrev pub decreases-loop-next : goal.decreases-loop-next
decreases-loop-next l = length (rising_from l.p l.next)
