use Rattle.std.proofs.Common.{◌≡◌, ◌++◌, map, take}
use Rattle.std.specs.List.{flat_map}
use Rattle.mt_insn.specs.Code.{offset}
use Rattle.mt_insn.specs.Spelling.{s4}
use Rattle.mt_insn.proofs.write.write_offsets.Given as goal

abbrev pub invariant-loop-target : goal.invariant-loop-target
invariant-loop-target l = l.out ≡ l.fn.out ++ flat_map s4 (map (offset l.starts l.place) (take l.target-index l.targets))
