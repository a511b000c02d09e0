use Rattle.std.proofs.Common.{lit<, refl, ◌%◌, ◌^◌}
use Rattle.std.specs.Int.{w32}
use Rattle.std.proofs.Math.Nat.{mod-lt}
use Rattle.machine_rules.specs.Arithmetic.{int_distance}
use Rattle.jvm_arith.proofs.Wrapping.{distance, left, unsigned}
use Rattle.jvm_arith.proofs.int.int_shift.Goals as goal

pub returns-in-ShiftLeft : goal.returns-in-ShiftLeft
returns-in-ShiftLeft c =
    let d = c.cast_unsigned-distance.result in
    let same = distance c.args.by d 32 (2 ^ 27) c.ranges.by (lit< tt) refl c.cast_unsigned-distance.ensures in
    rw c.in-ShiftLeft.is (left w32 c.args.a c.wrapping_shl.result (d % 32) (int_distance c.args.by) c.ranges.a (mod-lt d (lit< tt)) same c.wrapping_shl.ensures)

pub returns-in-ShiftUnsigned : goal.returns-in-ShiftUnsigned
returns-in-ShiftUnsigned c =
    let d = c.cast_unsigned-distance.result in
    let same = distance c.args.by d 32 (2 ^ 27) c.ranges.by (lit< tt) refl c.cast_unsigned-distance.ensures in
    rw c.in-ShiftUnsigned.is (unsigned w32 c.args.a c.cast_signed.result c.cast_unsigned.result c.wrapping_shr-in-ShiftUnsigned.result (d % 32) (int_distance c.args.by) c.ranges.a same c.cast_unsigned.ensures c.wrapping_shr-in-ShiftUnsigned.ensures c.cast_signed.ensures)
