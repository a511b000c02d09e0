use Rattle.std.proofs.Common.{lit<, refl, ◌%◌, ◌^◌}
use Rattle.std.specs.Int.{w64}
use Rattle.std.proofs.Math.Nat.{mod-lt}
use Rattle.machine_rules.specs.Arithmetic.{long_distance}
use Rattle.jvm_arith.proofs.Wrapping.{distance, left, unsigned}
use Rattle.jvm_arith.proofs.long.long_shift.Goals as goal

pub returns-in-ShiftLeft : goal.returns-in-ShiftLeft
returns-in-ShiftLeft c =
    let d = c.cast_unsigned-distance.result in
    let same = distance c.args.by d 64 (2 ^ 26) c.ranges.by (lit< tt) refl c.cast_unsigned-distance.ensures in
    rw c.in-ShiftLeft.is (left w64 c.args.a c.wrapping_shl.result (d % 64) (long_distance c.args.by) c.ranges.a (mod-lt d (lit< tt)) same c.wrapping_shl.ensures)

pub returns-in-ShiftUnsigned : goal.returns-in-ShiftUnsigned
returns-in-ShiftUnsigned c =
    let d = c.cast_unsigned-distance.result in
    let same = distance c.args.by d 64 (2 ^ 26) c.ranges.by (lit< tt) refl c.cast_unsigned-distance.ensures in
    rw c.in-ShiftUnsigned.is (unsigned w64 c.args.a c.cast_signed.result c.cast_unsigned.result c.wrapping_shr-in-ShiftUnsigned.result (d % 64) (long_distance c.args.by) c.ranges.a same c.cast_unsigned.ensures c.wrapping_shr-in-ShiftUnsigned.ensures c.cast_signed.ensures)
