use Rattle.std.proofs.Common.{refl, lit≤, ◌^◌}
use Rattle.std.specs.Int.{w8, w32}
use Rattle.jvm_arith.proofs.Wrapping.{low_word, widened}
use Rattle.jvm_arith.proofs.narrowing.low_byte.Goals as goal

pub returns : goal.returns
returns c = widened w32 w8 c.args.a c.cast_signed.result (lit≤ tt) (low_word w32 w8 c.args.a c.cast_signed.result c.cast_unsigned.result (2 ^ 24) c.ranges.a refl c.cast_unsigned.ensures c.cast_signed.ensures)
