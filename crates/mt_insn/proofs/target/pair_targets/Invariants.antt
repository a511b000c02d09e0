use Rattle.std.proofs.Common.{◌≡◌, ◌++◌, drop}
use Rattle.std.specs.Option.{option_map}
use Rattle.mt_insn.specs.Targets.{pair_targets}
use Rattle.mt_insn.proofs.target.pair_targets.Given as goal

abbrev pub invariant-loop-pair : goal.invariant-loop-pair
invariant-loop-pair l = option_map (λ later. l.numbers ++ later) (pair_targets l.starts l.place (drop l.pair-index l.pairs)) ≡ pair_targets l.starts l.place l.pairs
