use Rattle.std.proofs.Common.{◌≡◌, ◌≤◌, ◌-◌, ℕ, List, length, drop}
use Rattle.program_rules.specs.Subtypes.{is_within}
use Rattle.jvm_type_rows.proofs.within.common_brackets.Given as goal

abbrev pub invariant-loop-count : goal.invariant-loop-count
invariant-loop-count l = record {
  one : l.count ≤ length l.one;
  other : l.count ≤ length l.other;
  within : (names : List (List ℕ)) → is_within names l.one l.other ≡ is_within names (drop l.count l.one) (drop l.count l.other);
}

abbrev pub decreases-loop-count : goal.decreases-loop-count
decreases-loop-count l = length l.one - l.count
