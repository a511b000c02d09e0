-- What a worker's draw, look and detection make of its seat. This project's own.
use Rattle.std.specs.Prelude.{◌≡◌, ◌⊎◌, ℕ, ◌<◌, ◌≤◌, [], ◌∷◌, ◌++◌, Contains}
use Rattle.std.specs.Prelude.{IsSomeAnd, IsTrue, Option}
use Rattle.claim_core.specs.declared.events.ClaimEntry.{ClaimEntry}
use Rattle.claim_core.specs.declared.events.ClaimEntry.TheVariants.{Claimed, Looked, Detected}
use Rattle.claim_core.specs.Claims.{is_exhausted, no_place}
use Rattle.mutant_table.specs.declared.seat.ClaimSeat.{ClaimSeat}
use Rattle.mutant_table.specs.declared.table.ClaimTable.{ClaimTable}
use Rattle.mutant_table.specs.Entries.{ListAgrees, RanOut}
use Rattle.mutant_table.specs.Seats.{cells_of, entries_of}

-- the worker drew a number at or past the cells
abbrev pub HasRunOut : ClaimTable → ClaimSeat → Type 0
HasRunOut t s = IsTrue (is_exhausted (cells_of t) (entries_of s))

-- the seat before and after: its list got this entry
abbrev pub Notes : ClaimEntry → ClaimSeat → ClaimSeat → Type 0
Notes e before after = entries_of after ≡ entries_of before ++ e ∷ []

-- the number is a cell's, and the worker noted that it drew it
abbrev pub Draws : ClaimTable → ClaimSeat → ClaimSeat → ℕ → Type 0
Draws t before after n = (n < cells_of t) × Notes (Claimed n) before after

-- no cell was left for the worker: its list had run out and stayed, or ran out by this draw
abbrev pub DrawsNoCell : ClaimTable → ClaimSeat → ClaimSeat → Type 0
DrawsNoCell t before after = RanOut (cells_of t) (entries_of before) (entries_of after)

-- the list stayed, or is what the agreement of the claims says of it
abbrev pub StaysOrAgrees : ClaimTable → ClaimSeat → ClaimSeat → Type 0
StaysOrAgrees t before after =
    (entries_of after ≡ entries_of before) ⊎ ListAgrees (cells_of t) (entries_of after)

-- the place is one at which a mutant can be detected, and the worker noted that it saw it
abbrev pub SeesPlace : ℕ → ClaimSeat → ClaimSeat → ℕ → Type 0
SeesPlace mutant before after place = (place < no_place) × Notes (Looked mutant place) before after

-- the seen place is at most each place at which this worker has detected the mutant
abbrev pub IsAtMostDetected : ClaimSeat → ℕ → Option ℕ → Type 0
IsAtMostDetected s mutant seen =
    (p : ℕ) → Contains (entries_of s) (Detected mutant p) → IsSomeAnd seen (λ place. place ≤ p)
