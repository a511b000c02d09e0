use Rattle.std.proofs.Common.{◌≡◌, ◌<◌, length}
use Rattle.program_rules.specs.Programs.{top_of}
use Rattle.class_family.specs.Families.{rising_at}
use Rattle.jvm_link.proofs.family.top.Given as goal

abbrev pub invariant-loop-up : goal.invariant-loop-up
invariant-loop-up l = record {
  within : l.class.0 < length l.program;
  same : top_of (rising_at l.program l.fn.id.0) ≡ top_of (rising_at l.program l.class.0);
}

abbrev pub decreases-loop-up : goal.decreases-loop-up
decreases-loop-up l = length (rising_at l.program l.class.0)
