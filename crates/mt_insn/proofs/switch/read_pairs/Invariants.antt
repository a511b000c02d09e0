use Rattle.std.proofs.Common.{◌≡◌, ◌-◌}
use Rattle.codec_rules.specs.Reading.{many_at, with_front}
use Rattle.mt_insn.specs.Operands.{pair_at}
use Rattle.mt_insn.proofs.switch.read_pairs.Given as goal

abbrev pub invariant-loop : goal.invariant-loop
invariant-loop l = with_front l.pairs (many_at (pair_at l.at) (l.count - l.counter) l.code) ≡ many_at (pair_at l.at) l.count l.fn.code
