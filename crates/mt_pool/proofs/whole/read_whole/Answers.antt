use Rattle.mt_pool.proofs.PlaceLaws.{room}
use Rattle.mt_pool.proofs.whole.read_whole.Goals as goal

pub check_entries-requires : goal.check_entries-requires
check_entries-requires c = rw (c.at-start.ensures.place, c.as_slice.ensures) (room c.saturating_sub.result c.u2.new.self c.read_places.new.cur c.in_ok-entries.entries c.at-start.ensures.known c.in_ok-entries.ensures)
