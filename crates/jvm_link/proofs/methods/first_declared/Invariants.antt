use Rattle.std.proofs.Common.{◌≡◌, ◌<◌, length}
use Rattle.std.specs.Prelude.{IfSome}
use Rattle.program_rules.specs.Resolution.{first_declared}
use Rattle.class_family.specs.Families.{rising_at}
use Rattle.jvm_link.specs.Sites.{rising_from}
use Rattle.jvm_link.proofs.methods.first_declared.Given as goal

abbrev pub invariant-loop-next : goal.invariant-loop-next
invariant-loop-next l = record {
  within : IfSome l.next (λ a. a.0 < length l.program);
  rest : first_declared l.name l.desc (rising_at l.program l.fn.id.0) ≡ first_declared l.name l.desc (rising_from l.program l.next);
}

abbrev pub decreases-loop-next : goal.decreases-loop-next
decreases-loop-next l = length (rising_from l.program l.next)
