use Rattle.std.proofs.Common.{◌≡◌, ◌-◌}
use Rattle.codec_rules.specs.Reading.{many_at, with_front}
use Rattle.mt_attrs.specs.Frames.{vitem_at}
use Rattle.mt_attrs.proofs.frames.read_vitems.Given as goal

abbrev pub invariant-loop : goal.invariant-loop
invariant-loop l = with_front l.items (many_at (vitem_at l.pool l.starts l.first) (l.count - l.counter) l.cur) ≡ many_at (vitem_at l.pool l.starts l.first) l.count l.fn.cur
