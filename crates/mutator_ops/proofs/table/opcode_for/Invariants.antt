use Rattle.std.proofs.Common.{◌≡◌, drop}
use Rattle.mutator_ops.specs.Table.{opcode_for}
use Rattle.mutator_ops.proofs.table.opcode_for.Given as goal

abbrev pub invariant-loop-from : goal.invariant-loop-from
invariant-loop-from l = opcode_for (drop l.from-index l.pairs) l.op ≡ opcode_for l.pairs l.op
