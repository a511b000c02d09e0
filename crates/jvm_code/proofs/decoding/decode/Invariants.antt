use Rattle.std.proofs.Common.{take}
use Rattle.jvm_code.specs.Decoded.{AreDecoded}
use Rattle.jvm_code.proofs.decoding.decode.Given as goal

abbrev pub invariant-loop-instruction : goal.invariant-loop-instruction
invariant-loop-instruction l =
    AreDecoded (take l.instruction-index l.instructions) l.ops.items l.longs.items
