use Rattle.std.proofs.Common.{◌≡◌, take}
use Rattle.mt_insn.specs.Targets.{starts_of}
use Rattle.mt_insn.proofs.whole.starts_of.Given as goal

abbrev pub invariant-loop-insn : goal.invariant-loop-insn
invariant-loop-insn l = l.starts ≡ starts_of (take l.insn-index l.insns)
