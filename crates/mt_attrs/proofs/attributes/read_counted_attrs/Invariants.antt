use Rattle.std.proofs.Common.{◌≡◌, ◌-◌}
use Rattle.codec_rules.specs.Reading.{with_front}
use Rattle.mt_attrs.specs.Item.{many_by}
use Rattle.mt_attrs.specs.Attributes.{attr_at, attr_after}
use Rattle.mt_attrs.specs.Kinds.{all_unseen}
use Rattle.mt_attrs.proofs.attributes.read_counted_attrs.Given as goal

abbrev pub invariant-loop : goal.invariant-loop
invariant-loop l = with_front l.attrs (many_by (attr_at l.file_end l.pool l.owner) (attr_after l.pool l.owner) l.unseen (l.count - l.counter) l.cur) ≡ many_by (attr_at l.file_end l.pool l.owner) (attr_after l.pool l.owner) all_unseen l.count l.fn.cur
