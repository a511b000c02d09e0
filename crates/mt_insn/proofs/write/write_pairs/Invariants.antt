use Rattle.std.proofs.Common.{◌≡◌, ◌++◌, map, take}
use Rattle.std.specs.List.{flat_map}
use Rattle.mt_insn.specs.Code.{offset}
use Rattle.mt_insn.specs.Spelling.{pair_bytes}
use Rattle.mt_insn.proofs.write.write_pairs.Given as goal

abbrev pub invariant-loop-pair : goal.invariant-loop-pair
invariant-loop-pair l = l.out ≡ l.fn.out ++ flat_map pair_bytes (map (λ pair. (pair.0, offset l.starts l.place pair.1)) (take l.pair-index l.pairs))
