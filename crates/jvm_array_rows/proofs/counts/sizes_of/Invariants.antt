use Rattle.std.proofs.Common.{◌≡◌, map, take, unsigned_abs}
use Rattle.jvm_array_rows.proofs.counts.sizes_of.Given as goal

abbrev pub invariant-loop-z : goal.invariant-loop-z
invariant-loop-z l = l.sizes.items ≡ map unsigned_abs (take l.z-index l.counts)
