use Rattle.std.proofs.Common.{◌≡◌, ◌-◌}
use Rattle.codec_rules.specs.Reading.{many_at, with_front}
use Rattle.mt_attrs.specs.Lines.{line_at}
use Rattle.mt_attrs.proofs.lines.read_counted_lines.Given as goal

abbrev pub invariant-loop : goal.invariant-loop
invariant-loop l = with_front l.lines (many_at (line_at l.starts) (l.count - l.counter) l.cur) ≡ many_at (line_at l.starts) l.count l.fn.cur
