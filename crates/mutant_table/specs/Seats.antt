-- The seats of a table, in the order of their numbers. This project's own.
use Rattle.std.specs.Prelude.{◌≡◌, ℕ, ◌<◌, List, [], length, slice_index_or, true, map, drop, Vec}
use Rattle.std.specs.declared.alloc.Global.{Global}
use Rattle.atomic_table.specs.declared.shared.Seat.{Seat}
use Rattle.atomic_table.specs.Seated.{TableId}
use Rattle.claim_core.specs.declared.events.ClaimEntry.{ClaimEntry}
use Rattle.claim_core.specs.Agreement.{ClaimsAgree}
use Rattle.claim_core.specs.Claims.{Claims}
use Rattle.mutant_table.specs.declared.rule.View.{View}
use Rattle.mutant_table.specs.declared.rule.Sizes.{Sizes}
use Rattle.mutant_table.specs.Rule.{first_view}
use Rattle.mutant_table.specs.declared.seat.ClaimSeat.{ClaimSeat}
use Rattle.mutant_table.specs.declared.table.ClaimTable.{ClaimTable}
use Rattle.mutant_table.specs.declared.table.ClaimEnd.{ClaimEnd}

abbrev pub view_of : ClaimSeat → View
view_of s = s.seat.me.0

-- the worker's number, and its list
abbrev pub worker_of : ClaimSeat → ℕ
worker_of s = (view_of s).worker

abbrev pub entries_of : ClaimSeat → List ClaimEntry
entries_of s = (view_of s).entries

abbrev pub mutants_of : ClaimTable → ℕ
mutants_of t = t.table.shared.key.mutants

abbrev pub cells_of : ClaimTable → ℕ
cells_of t = t.table.shared.key.cells

abbrev pub workers_of : ClaimTable → ℕ
workers_of t = t.table.shared.key.workers

-- the seat is of the table, and holds no slot. The seat of worker 0 knows how many there are
pub record IsSeatAt (table : TableId) (z : Sizes) (s : ClaimSeat) : Type 0 where
  pub table_is : s.seat.table_id ≡ table
  pub mutants : (view_of s).mutants ≡ z.mutants
  pub cells : (view_of s).cells ≡ z.cells
  pub bare : s.seat.me.1 ≡ []
  pub first : worker_of s ≡ 0 → ((view_of s).made ≡ z.workers) × ((view_of s).ended ≡ [])

abbrev pub IsSeatOf : ClaimTable → ClaimSeat → Type 0
IsSeatOf t s = IsSeatAt t.table.shared.table_id t.table.shared.key s

-- all seats of the table, in the order of their numbers
pub record AreSeatsAt (table : TableId) (z : Sizes) (seats : List ClaimSeat) : Type 0 where
  pub count : length seats ≡ z.workers
  pub each : (k : ℕ) (d : ClaimSeat) → k < length seats →
      IsSeatAt table z (slice_index_or seats k d) × (worker_of (slice_index_or seats k d) ≡ k)

abbrev pub AreSeats : ClaimTable → List ClaimSeat → Type 0
AreSeats t seats = AreSeatsAt t.table.shared.table_id t.table.shared.key seats

-- the same of seats that are handed out
abbrev pub AreMadeSeats : TableId → Sizes → Vec ClaimSeat Global → Type 0
AreMadeSeats table z made = AreSeatsAt table z made.items

-- a seat as the table is made with: it is of worker 0, and no other seat is made yet
abbrev pub IsFirstSeat : TableId → Sizes → Seat ℕ View → Type 0
IsFirstSeat table z s = (s.table_id ≡ table) × (s.me ≡ (first_view z, []))

-- the table is for so many mutants, cells and workers
abbrev pub HasSizes : ℕ → ℕ → ℕ → ClaimTable → Type 0
HasSizes mutants cells workers t =
    (mutants_of t ≡ mutants) × (cells_of t ≡ cells) × (workers_of t ≡ workers)

-- the claims at the end, with the lists of the seats
abbrev pub claims_at : ℕ → ClaimEnd → List ClaimSeat → Claims
claims_at cells end seats = record {
  cells = cells;
  next = end.next;
  least = end.least;
  lists = map entries_of seats;
}

-- the claims at the end of a table, with the lists of its seats, agree
abbrev pub AgreesAtEnd : ClaimTable → List ClaimSeat → ClaimEnd → Type 0
AgreesAtEnd t seats end = ClaimsAgree (claims_at (cells_of t) end seats)

abbrev pub ended_as : ClaimSeat → ℕ × List ClaimEntry
ended_as s = (worker_of s, entries_of s)

-- the view of worker 0 once it has taken in all others
pub record IsGathered (z : Sizes) (seats : List ClaimSeat) (v : View) : Type 0 where
  pub live : v.live ≡ true
  pub worker : v.worker ≡ 0
  pub made : v.made ≡ z.workers
  pub entries : v.entries ≡ slice_index_or (map entries_of seats) 0 []
  pub ended : v.ended ≡ map ended_as (drop 1 seats)

-- the view of worker 0 when n seats are made
abbrev pub first_made : Sizes → ℕ → View
first_made z n = record (first_view z) { made = n }
