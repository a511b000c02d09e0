use Rattle.std.proofs.Common.{◌≡◌, take}
use Rattle.std.specs.Io.Iter.{u64_saturate}
use Rattle.mutator_ops.specs.Counts.{rows_in}
use Rattle.mutator_ops.proofs.counting.rows_in.Given as goal

abbrev pub invariant-loop-insn : goal.invariant-loop-insn
invariant-loop-insn l = l.count ≡ u64_saturate (rows_in l.asked (take l.insn-index l.insns))
