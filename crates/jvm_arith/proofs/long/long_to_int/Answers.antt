use Rattle.std.proofs.Common.{refl, ◌^◌}
use Rattle.std.specs.Int.{w32, w64}
use Rattle.jvm_arith.proofs.Wrapping.{low_word, passed}
use Rattle.jvm_arith.proofs.long.long_to_int.Goals as goal

pub returns : goal.returns
returns c = passed w32 c.cast_signed.result c.args.a (low_word w64 w32 c.args.a c.cast_signed.result c.cast_unsigned.result (2 ^ 32) c.ranges.a refl c.cast_unsigned.ensures c.cast_signed.ensures)
