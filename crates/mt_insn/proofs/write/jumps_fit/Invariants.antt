use Rattle.std.proofs.Common.{◌≡◌, drop}
use Rattle.mt_insn.specs.Code.{jumps_fit, end_from, code_length}
use Rattle.mt_insn.proofs.write.jumps_fit.Given as goal

abbrev pub invariant-loop-insn : goal.invariant-loop-insn
invariant-loop-insn l = (jumps_fit l.starts l.place (drop l.insn-index l.insns) ≡ jumps_fit l.starts 0 l.insns) × (end_from l.place (drop l.insn-index l.insns) ≡ code_length l.insns)
