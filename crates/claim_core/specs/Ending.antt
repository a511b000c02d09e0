-- Workers that did all cells of a table, and what the least places then are. This project's own.
use Rattle.std.specs.Prelude.{◌≡◌, ◌≢◌, ◌⊎◌, ℕ, ◌<◌, ◌≤◌, ◌↔◌, Option, Some, None}
use Rattle.std.specs.Prelude.{List, length, All, Contains, slice_get}
use Rattle.claim_core.specs.declared.events.ClaimEntry.{ClaimEntry}
use Rattle.claim_core.specs.declared.events.Event.{Event}
use Rattle.claim_core.specs.declared.events.ClaimEntry.TheVariants.{Claimed, Looked, Detected}
use Rattle.claim_core.specs.Agreement.{ClaimsAgree}
use Rattle.claim_core.specs.Claims.{Claims, list_of, least_of, place_in, no_place}
use Rattle.claim_core.specs.Claims.{started, after_all, IsInRange}

-- a run of the table: the mutant, and the place of the test among the tests
pub record Cell : Type 0 where
  pub mutant : ℕ
  pub place : ℕ

-- the worker's reason to leave a cell: a look of its own showed a place below the cell's
abbrev pub Leaves : List ClaimEntry → Cell → Type 0
Leaves entries cell = (v : ℕ) × Contains entries (Looked cell.mutant v) × (v < cell.place)

-- the worker detects the cell exactly where it is among the detecting ones
abbrev pub Settles : List Cell → List ClaimEntry → Cell → Type 0
Settles detecting entries cell =
    Contains entries (Detected cell.mutant cell.place) ↔ Contains detecting cell

-- Each cell of the table was claimed. Its worker left or settled it, and detected nothing but cells
-- that it claimed and settled. It is not asked that a worker looks at a cell that it doesn't leave,
-- or that the look on which it leaves one comes after the claim.
pub record IsWholeRun (c : Claims) (table detecting : List Cell) : Type 0 where
  pub count : length table ≡ c.cells
  pub cells : All (λ cell. (cell.mutant < length c.least) × (cell.place < no_place)) table
  pub in_table : All (Contains table) detecting
  pub claimed : (n : ℕ) → n < c.cells → (w : ℕ) × Contains (list_of c w) (Claimed n)
  pub done : (w n : ℕ) (cell : Cell) → Contains (list_of c w) (Claimed n) →
      slice_get table n ≡ Some cell →
      Leaves (list_of c w) cell ⊎ Settles detecting (list_of c w) cell
  pub only : (w : ℕ) (cell : Cell) → Contains (list_of c w) (Detected cell.mutant cell.place) →
      (n : ℕ) × Contains (list_of c w) (Claimed n) × (slice_get table n ≡ Some cell)
      × Settles detecting (list_of c w) cell

-- the place is the least of the mutant's detecting cells, or none where it has none
abbrev pub IsLeastOf : List Cell → ℕ → Option ℕ → Type 0
IsLeastOf detecting mutant (Some place) =
    Contains detecting (record { mutant = mutant; place = place })
    × All (λ cell. cell.mutant ≡ mutant → place ≤ cell.place) detecting
IsLeastOf detecting mutant None = All (λ cell. cell.mutant ≢ mutant) detecting

-- once all cells of a table are done, the place is the least of the mutant's detecting cells
abbrev pub IsLeastOnceDone : Claims → ℕ → Option ℕ → Type 0
IsLeastOnceDone c mutant place =
    (table detecting : List Cell) → IsWholeRun c table detecting → IsLeastOf detecting mutant place

-- where the claims agree and the cells of a table are all done, the least place of each mutant is
-- the least of its detecting cells
abbrev pub WholeRunsEndAtLeast : Claims → Type 0
WholeRunsEndAtLeast c =
    (table detecting : List Cell) → ClaimsAgree c → IsWholeRun c table detecting
    → (mutant : ℕ) → mutant < length c.least
    → IsLeastOf detecting mutant (place_in (least_of c mutant))

-- after any events from the start, where the cells of a table are all done, the least place of each
-- mutant is the least of its detecting cells
abbrev pub EndsAtLeast : ℕ → ℕ → ℕ → List Event → Type 0
EndsAtLeast mutants cells workers events =
    All (IsInRange (started mutants cells workers)) events
    → (table detecting : List Cell)
    → IsWholeRun (after_all events (started mutants cells workers)) table detecting
    → (mutant : ℕ) → mutant < mutants
    → IsLeastOf detecting mutant
    (place_in (least_of (after_all events (started mutants cells workers)) mutant))

-- the same of all lists of events
abbrev pub RunsEndAtLeast : ℕ → ℕ → ℕ → Type 0
RunsEndAtLeast mutants cells workers =
    (events : List Event) → EndsAtLeast mutants cells workers events
