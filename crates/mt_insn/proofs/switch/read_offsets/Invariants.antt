use Rattle.std.proofs.Common.{◌≡◌, ◌-◌}
use Rattle.codec_rules.specs.Reading.{many_at, with_front}
use Rattle.mt_insn.specs.Item.{s4_in}
use Rattle.mt_insn.proofs.switch.read_offsets.Given as goal

abbrev pub invariant-loop : goal.invariant-loop
invariant-loop l = with_front l.offsets (many_at (s4_in l.at) (l.count - l.counter) l.code) ≡ many_at (s4_in l.at) l.count l.fn.code
