use Rattle.std.proofs.Common.{◌≡◌, ◌+◌, length}
use Rattle.codec_rules.specs.Reading.{until_end, with_values}
use Rattle.codec_rules.specs.Spelling.{input_at}
use Rattle.mt_insn.specs.Targets.{placed_at}
use Rattle.mt_insn.proofs.whole.read_placed.Given as goal

abbrev pub invariant-loop-code : goal.invariant-loop-code
invariant-loop-code l = (with_values l.all (until_end (placed_at l.base l.pool) l.code) ≡ until_end (placed_at l.base l.pool) (input_at 0 l.bytes)) × (l.code.at + length l.code.bytes ≡ length l.bytes)

abbrev pub decreases-loop-code : goal.decreases-loop-code
decreases-loop-code l = length l.code.bytes
