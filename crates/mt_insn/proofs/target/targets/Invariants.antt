use Rattle.std.proofs.Common.{◌≡◌, ◌++◌, drop}
use Rattle.std.specs.Option.{option_map}
use Rattle.mt_insn.specs.Targets.{targets}
use Rattle.mt_insn.proofs.target.targets.Given as goal

abbrev pub invariant-loop-offset : goal.invariant-loop-offset
invariant-loop-offset l = option_map (λ later. l.numbers ++ later) (targets l.starts l.place (drop l.offset-index l.offsets)) ≡ targets l.starts l.place l.offsets
