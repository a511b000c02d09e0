use Rattle.std.proofs.Common.{◌≡◌, ◌-◌, ◌≤◌, ◌^◌}
use Rattle.codec_rules.specs.Reading.{with_front}
use Rattle.mt_attrs.specs.Item.{many_by}
use Rattle.mt_attrs.specs.Frames.{frame_at, next_behind}
use Rattle.mt_attrs.proofs.frames.read_counted_frames.Given as goal

abbrev pub invariant-loop : goal.invariant-loop
invariant-loop l = (with_front l.frames (many_by (frame_at l.pool l.starts) (next_behind l.starts) l.next (l.count - l.counter) l.cur) ≡ many_by (frame_at l.pool l.starts) (next_behind l.starts) 0 l.count l.fn.cur) × (l.next ≤ 2 ^ 16)
