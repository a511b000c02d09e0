use Rattle.std.proofs.Common.{◌≡◌}
use Rattle.machine_rules.specs.Arrays.{has_dimensions}
use Rattle.jvm_array_rows.specs.Descriptors.{IsBehind}
use Rattle.jvm_array_rows.proofs.dimensions.has_dimensions.Given as goal

abbrev pub invariant-loop-left : goal.invariant-loop-left
invariant-loop-left l = record {
  same : has_dimensions l.class l.rest l.left ≡ has_dimensions l.class l.name l.count;
  behind : IsBehind l.class l.rest;
}

abbrev pub decreases-loop-left : goal.decreases-loop-left
decreases-loop-left l = l.left
