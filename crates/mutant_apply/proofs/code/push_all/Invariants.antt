use Rattle.std.proofs.Common.{◌≡◌, ◌++◌, drop}
use Rattle.mutant_apply.proofs.code.push_all.Given as goal

abbrev pub invariant-loop-insn : goal.invariant-loop-insn
invariant-loop-insn l = l.insns ++ drop l.insn-index l.new ≡ l.fn.insns ++ l.new
