use Rattle.std.proofs.Common.{◌≡◌, ◌-◌}
use Rattle.codec_rules.specs.Reading.{many_at, with_front}
use Rattle.mt_attrs.specs.Notes.{note_at}
use Rattle.mt_attrs.proofs.notes.read_counted_notes.Given as goal

abbrev pub invariant-loop : goal.invariant-loop
invariant-loop l = with_front l.notes (many_at (note_at l.pool) (l.count - l.counter) l.cur) ≡ many_at (note_at l.pool) l.count l.fn.cur
