-- What workers note at a table of claims while they do the cells of a job (this project's own).
use Rattle.std.specs.Prelude.{◌≡◌, ◌⊎◌, ℕ, ◌+◌, ◌<◌, ◌≤◌, List, [], ◌∷◌, ◌++◌, Bool, true, false, if◌then◌else◌, map, length, take, drop, suc}
use Rattle.std.specs.Prelude.{Option, Some, None, is_some, Contains, All, slice_get, slice_index_or}
use Rattle.claim_core.specs.declared.events.ClaimEntry.{ClaimEntry}
use Rattle.claim_core.specs.declared.events.ClaimEntry.TheVariants.{Claimed, Looked, Detected}
use Rattle.claim_core.specs.Agreement.{ClaimsAgree}
use Rattle.claim_core.specs.Claims.{Claims, list_of, no_place}
use Rattle.claim_core.specs.Ending.{Cell}
use Rattle.job_rules.specs.Tried.{Tried}
use Rattle.job_rules.specs.Ended.{Ended, ran, reused, skipped, say_end}

-- ---- cells

-- The cells of mutants that are numbered from this one on: by mutant, and then by test. A cell's
-- place is the number of its test.
abbrev pub cell_at : {Rec : Type 0} → ℕ → Tried Rec → Cell
cell_at k t = record { mutant = k; place = t.test }

abbrev pub cells_from : {Rec : Type 0} → ℕ → List (List (Tried Rec)) → List Cell
cells_from k [] = []
cells_from k (ts ∷ mutants) = map (cell_at k) ts ++ cells_from (suc k) mutants

abbrev pub cells_of : {Rec : Type 0} → List (List (Tried Rec)) → List Cell
cells_of mutants = cells_from 0 mutants

-- Their runs, in the order of the cells.
abbrev pub runs_in : {Rec : Type 0} → List (List (Tried Rec)) → List (Tried Rec)
runs_in [] = []
runs_in (ts ∷ mutants) = ts ++ runs_in mutants

-- The ends of all cells, by mutant.
abbrev pub parted :
    {Rec : Type 0} → List (List (Tried Rec)) → List (Ended Rec) → List (List (Ended Rec))
parted [] es = []
parted (ts ∷ mutants) es = take (length ts) es ∷ parted mutants (drop (length ts) es)

-- The order in which cells are drawn: for each number that is drawn, that of a cell. Each cell
-- stands there once, and those of one mutant in their order. It need not be the order of the cells:
-- where the first cells of all mutants are drawn before the second ones, workers seldom meet at a
-- mutant.
pub record IsOrderOf (cells : List Cell) (order : List ℕ) : Type 0 where
  pub count : length order ≡ length cells
  pub within : (d n : ℕ) → slice_get order d ≡ Some n → n < length cells
  pub each : (n : ℕ) → n < length cells → (d : ℕ) × (slice_get order d ≡ Some n)
  pub once : (d e n : ℕ) → slice_get order d ≡ Some n → slice_get order e ≡ Some n → d ≡ e
  pub ascends : (d e m n : ℕ) (b c : Cell) → slice_get order d ≡ Some m →
      slice_get order e ≡ Some n → slice_get cells m ≡ Some b → slice_get cells n ≡ Some c →
      b.mutant ≡ c.mutant → m < n → d < e

-- ---- a worker

-- What a worker did for a cell: the number that it drew, the cell with its own number and its run,
-- the place that its look saw, and how it ended.
pub record Work (Rec : Type 0) : Type 0 where
  pub drawn : ℕ
  pub number : ℕ
  pub cell : Cell
  pub run : Tried Rec
  pub seen : ℕ
  pub end : Ended Rec

-- It ends by what the look saw: it is skipped exactly where one detection suffices and the place is
-- below the cell's; else the record is the found one, or the run's own where none is found.
abbrev pub MayRun : Bool → ℕ → ℕ → Type 0
MayRun all place seen = (all ≡ true) ⊎ (place ≤ seen)

abbrev pub EndsOn : {Rec : Type 0} → Bool → ℕ → ℕ → Tried Rec → Ended Rec → Type 0
EndsOn all place seen t (ran r) = MayRun all place seen × (t.found ≡ None) × (r ≡ t.made)
EndsOn all place seen t (reused r) = MayRun all place seen × (t.found ≡ Some r)
EndsOn all place seen t (skipped v) = (all ≡ false) × (v ≡ seen) × (v < place)

-- the runs of a job's mutants, and the order in which their cells are drawn
pub record IsWorkOf
    {Rec : Type 0} (all : Bool) (mutants : List (List (Tried Rec))) (order : List ℕ) (w : Work Rec)
    : Type 0 where
  pub drew : slice_get order w.drawn ≡ Some w.number
  pub cell : slice_get (cells_of mutants) w.number ≡ Some w.cell
  pub run : slice_get (runs_in mutants) w.number ≡ Some w.run
  pub ended : EndsOn all w.cell.place w.seen w.run w.end

abbrev pub numbered : {Rec : Type 0} → Work Rec → ℕ × Ended Rec
numbered w = (w.number, w.end)

-- The ends that a worker has.
abbrev pub ends_of : {Rec : Type 0} → List (List (ℕ × Ended Rec)) → ℕ → List (ℕ × Ended Rec)
ends_of ends worker = slice_index_or ends worker []

module _ {Rec S : Type 0} (say : Rec → Option S) where
  abbrev pub detection : Cell → Ended Rec → List ClaimEntry
  detection cell end =
      if is_some (say_end say end) then Detected cell.mutant cell.place ∷ [] else []

  -- What the worker noted for a cell, and for these one after the other.
  abbrev pub did : Work Rec → List ClaimEntry
  did w = Claimed w.drawn ∷ Looked w.cell.mutant w.seen ∷ detection w.cell w.end

  abbrev pub all_did : List (Work Rec) → List ClaimEntry
  all_did [] = []
  all_did (w ∷ ws) = did w ++ all_did ws

  -- The list of a worker that did these cells and then drew a number past all, with their ends.
  pub record DidCells
      (all : Bool) (mutants : List (List (Tried Rec))) (order : List ℕ) (cells : ℕ)
      (entries : List ClaimEntry) (ends : List (ℕ × Ended Rec))
      : Type 0 where
    pub works : List (Work Rec)
    pub last : ℕ
    pub past : cells ≤ last
    pub ends_are : ends ≡ map numbered works
    pub each : All (IsWorkOf all mutants order) works
    pub noted : entries ≡ all_did works ++ Claimed last ∷ []

  -- All workers did so, and the claims agree.
  pub record AllDid
      (all : Bool) (mutants : List (List (Tried Rec))) (order : List ℕ) (c : Claims)
      (ends : List (List (ℕ × Ended Rec)))
      : Type 0 where
    pub agree : ClaimsAgree c
    pub some : 0 < length c.lists
    pub count : c.cells ≡ length (cells_of mutants)
    pub places : All (λ cell. cell.place < no_place) (cells_of mutants)
    pub order_is : IsOrderOf (cells_of mutants) order
    pub each : (w : ℕ) → w < length c.lists →
        DidCells all mutants order c.cells (list_of c w) (ends_of ends w)

-- The ends of all cells, in the order of their numbers, each of some worker.
pub record AreGathered
    {Rec : Type 0} (workers cells : ℕ) (ends : List (List (ℕ × Ended Rec)))
    (gathered : List (Ended Rec))
    : Type 0 where
  pub count : length gathered ≡ cells
  pub each : (n : ℕ) (e : Ended Rec) → slice_get gathered n ≡ Some e →
      (w : ℕ) × (w < workers) × Contains (ends_of ends w) (n, e)
