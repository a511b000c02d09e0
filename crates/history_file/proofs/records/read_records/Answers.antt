use Rattle.std.specs.Int.{w32}
use Rattle.history_file.proofs.Room.{number_in}
use Rattle.history_file.proofs.records.read_records.Goals as goal

pub read_counted_records-requires-clause-place : goal.read_counted_records-requires-clause-place
read_counted_records-requires-clause-place c = number_in w32 c.args.file.now c.args.cur.now c.u4.new.self c.in_ok-count.count c.in_ok-count.ensures c.requires.place
