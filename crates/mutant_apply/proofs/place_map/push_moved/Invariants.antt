use Rattle.std.proofs.Common.{◌≡◌, ◌++◌, drop, map}
use Rattle.mutant_apply.specs.Moved.{moved_place, moved_insn}
use Rattle.mutant_apply.proofs.place_map.push_moved.Given as goal

abbrev pub invariant-loop-insn : goal.invariant-loop-insn
invariant-loop-insn l = l.edited ++ map (moved_insn (moved_place l.by.at l.by.more)) (drop l.insn-index l.insns) ≡ l.fn.edited ++ map (moved_insn (moved_place l.by.at l.by.more)) l.insns
