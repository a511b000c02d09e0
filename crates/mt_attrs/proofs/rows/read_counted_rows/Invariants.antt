use Rattle.std.proofs.Common.{◌≡◌, ◌-◌}
use Rattle.codec_rules.specs.Reading.{many_at, with_front}
use Rattle.mt_attrs.specs.Rows.{row_at}
use Rattle.mt_attrs.proofs.rows.read_counted_rows.Given as goal

abbrev pub invariant-loop : goal.invariant-loop
invariant-loop l = with_front l.rows (many_at (row_at l.pool l.starts l.end) (l.count - l.counter) l.cur) ≡ many_at (row_at l.pool l.starts l.end) l.count l.fn.cur
