use Rattle.std.proofs.Common.{◌≡◌, ◌++◌, true, drop}
use Rattle.codec_rules.specs.Spelling.{spelled_from}
use Rattle.mt_insn.specs.Code.{jumps_fit, end_from, code_length, raws_from}
use Rattle.mt_insn.specs.Spelling.{raw_bytes}
use Rattle.mt_insn.proofs.write.write_all.Given as goal

abbrev pub invariant-loop-insn : goal.invariant-loop-insn
invariant-loop-insn l = (jumps_fit l.starts l.place (drop l.insn-index l.insns) ≡ true) × (end_from l.place (drop l.insn-index l.insns) ≡ code_length l.insns) × (l.out ++ spelled_from raw_bytes l.place (raws_from l.starts l.place (drop l.insn-index l.insns)) ≡ l.fn.out ++ spelled_from raw_bytes 0 (raws_from l.starts 0 l.insns))
