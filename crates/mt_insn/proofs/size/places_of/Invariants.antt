use Rattle.std.proofs.Common.{◌≡◌, ◌++◌, ◌^◌, ◌<◌, drop}
use Rattle.mt_insn.specs.Code.{end_from, code_length, places_from, places}
use Rattle.mt_insn.proofs.size.places_of.Given as goal

abbrev pub invariant-loop-insn : goal.invariant-loop-insn
invariant-loop-insn l = (end_from l.place (drop l.insn-index l.insns) ≡ code_length l.insns) × (l.place < 2 ^ 32) × (l.places ++ places_from l.place (drop l.insn-index l.insns) ≡ places l.insns)
