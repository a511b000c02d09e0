use Rattle.std.proofs.Common.{◌≡◌, [], ◌++◌, map, true, drop}
use Rattle.std.specs.Prelude.{All, slice_index_or}
use Rattle.mutant_table.specs.Seats.{ended_as, entries_of, IsSeatAt}
use Rattle.mutant_table.proofs.closing.gathered.Given as goal

abbrev pub invariant-loop-seat : goal.invariant-loop-seat
invariant-loop-seat l = (l.host.table_id ≡ l.table.shared.table_id) × (l.host.me.0.live ≡ true) × (l.host.me.0.worker ≡ 0) × (l.host.me.0.made ≡ l.table.shared.key.workers)
    × (l.host.me.0.entries ≡ slice_index_or (map entries_of l.fn.seats.items) 0 []) × (l.host.me.0.ended ≡ map ended_as l.yielded)
    × (l.yielded ++ l.seat-iterator.rest.items ≡ drop 1 l.fn.seats.items)
    × All (IsSeatAt l.table.shared.table_id l.table.shared.key) l.seat-iterator.rest.items
