use Rattle.std.proofs.Common.{◌≡◌, ◌-◌}
use Rattle.codec_rules.specs.Reading.{many_at, with_front}
use Rattle.class_reader.specs.Indices.{index_at, names_class, no_class}
use Rattle.class_reader.proofs.members.read_so_many_interfaces.Given as goal

abbrev pub invariant-loop : goal.invariant-loop
invariant-loop l = with_front l.interfaces (many_at (index_at (names_class l.pool) no_class) (l.count - l.counter) l.cur) ≡ many_at (index_at (names_class l.pool) no_class) l.count l.fn.cur
