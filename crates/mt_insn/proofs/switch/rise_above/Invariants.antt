use Rattle.std.proofs.Common.{◌≡◌, drop}
use Rattle.mt_insn.specs.Operands.{rise_above}
use Rattle.mt_insn.proofs.switch.rise_above.Given as goal

abbrev pub invariant-loop-pair : goal.invariant-loop-pair
invariant-loop-pair l = rise_above l.key (drop l.pair-index l.pairs) ≡ rise_above l.first l.pairs
