use Rattle.std.proofs.Common.{◌≡◌, ◌+◌, ◌<◌, ℕ, [], length}
use Rattle.std.specs.Prelude.{slice_index_or}
use Rattle.mutant_table.specs.declared.seat.ClaimSeat.{ClaimSeat}
use Rattle.mutant_table.specs.Seats.{first_made, worker_of, entries_of, IsSeatAt}
use Rattle.mutant_table.proofs.making.seated.Given as goal

abbrev pub invariant-loop : goal.invariant-loop
invariant-loop l = (l.first.table_id ≡ l.table.shared.table_id) × (l.first.me ≡ (first_made l.table.shared.key l.counter, [])) × (length l.seats.items + 1 ≡ l.counter)
    × ((k : ℕ) (d : ClaimSeat) → k < length l.seats.items → IsSeatAt l.table.shared.table_id l.table.shared.key (slice_index_or l.seats.items k d) × (worker_of (slice_index_or l.seats.items k d) ≡ k + 1) × (entries_of (slice_index_or l.seats.items k d) ≡ []))
