use Rattle.std.proofs.Common.{◌≡◌, ◌-◌}
use Rattle.codec_rules.specs.Reading.{with_front}
use Rattle.mt_attrs.specs.Notes.{tokens_at}
use Rattle.mt_attrs.proofs.notes.read_turns.Given as goal

abbrev pub invariant-loop : goal.invariant-loop
invariant-loop l = with_front l.tokens (tokens_at l.pool (l.turns - l.counter) l.dues l.cur) ≡ tokens_at l.pool l.turns l.fn.dues l.fn.cur
