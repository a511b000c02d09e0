use Rattle.std.proofs.Common.{◌≡◌, drop}
use Rattle.std.specs.Int.{is_negative}
use Rattle.std.specs.List.{list_any}
use Rattle.jvm_array_rows.proofs.counts.has_negative.Given as goal

abbrev pub invariant-loop-z : goal.invariant-loop-z
invariant-loop-z l = list_any is_negative (drop l.z-index l.counts) ≡ list_any is_negative l.counts
