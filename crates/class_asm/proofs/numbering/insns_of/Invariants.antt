use Rattle.std.proofs.Common.{◌≡◌, drop}
use Rattle.class_asm.specs.File.{each}
use Rattle.class_asm.specs.File.{insn_of}
use Rattle.class_asm.proofs.EachLaws.{fronted}
use Rattle.class_asm.proofs.numbering.insns_of.Given as goal

abbrev pub invariant-loop-insn : goal.invariant-loop-insn
invariant-loop-insn l = fronted l.insns (each insn_of (drop l.insn-index l.stated) l.entries) ≡ each insn_of l.stated l.fn.entries
