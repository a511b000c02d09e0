use Rattle.std.proofs.Common.{◌≡◌, ◌<◌, length}
use Rattle.std.specs.Prelude.{IfSome}
use Rattle.program_rules.specs.Resolution.{superclasses_behind}
use Rattle.class_table.specs.Table.{name_at}
use Rattle.class_family.specs.Families.{rising_at}
use Rattle.jvm_layout.specs.Layouts.{rising_from}
use Rattle.jvm_layout.proofs.slots.behind.Given as goal

abbrev pub invariant-loop-next : goal.invariant-loop-next
invariant-loop-next l = record {
  within : IfSome l.next (λ a. a.0 < length l.p);
  behind : superclasses_behind (name_at l.p l.class.0) (rising_at l.p l.fn.root.0) ≡ superclasses_behind (name_at l.p l.class.0) (rising_from l.p l.next);
}

abbrev pub decreases-loop-next : goal.decreases-loop-next
decreases-loop-next l = length (rising_from l.p l.next)
