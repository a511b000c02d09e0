use Rattle.std.proofs.Common.{◌≡◌, ◌-◌}
use Rattle.codec_rules.specs.Reading.{many_at, with_front}
use Rattle.class_reader.specs.Reading.{field_at}
use Rattle.class_reader.proofs.members.read_so_many_fields.Given as goal

abbrev pub invariant-loop : goal.invariant-loop
invariant-loop l = with_front l.fields (many_at (field_at l.pool) (l.count - l.counter) l.cur) ≡ many_at (field_at l.pool) l.count l.fn.cur
