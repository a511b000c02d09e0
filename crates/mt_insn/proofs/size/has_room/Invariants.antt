use Rattle.std.proofs.Common.{◌≡◌, ◌^◌, ◌<◌, drop}
use Rattle.mt_insn.specs.Code.{end_from, code_length}
use Rattle.mt_insn.proofs.size.has_room.Given as goal

abbrev pub invariant-loop-insn : goal.invariant-loop-insn
invariant-loop-insn l = (end_from l.place (drop l.insn-index l.insns) ≡ code_length l.insns) × (l.place < 2 ^ 16)
