use Rattle.std.proofs.Common.{◌≡◌, ◌-◌, true}
use Rattle.codec_rules.specs.Reading.{with_front}
use Rattle.mt_attrs.specs.Item.{many_by}
use Rattle.mt_attrs.specs.CodeParts.{table_at, table_after}
use Rattle.mt_attrs.proofs.code.read_counted_tables.Given as goal

abbrev pub invariant-loop : goal.invariant-loop
invariant-loop l = with_front l.attrs (many_by (table_at l.file_end l.pool l.starts) (table_after l.pool) l.unseen (l.count - l.counter) l.cur) ≡ many_by (table_at l.file_end l.pool l.starts) (table_after l.pool) true l.count l.fn.cur
