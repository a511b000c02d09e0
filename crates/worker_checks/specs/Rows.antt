-- The job of runs that are looked up in rows, and its cells (this project's own).
use Rattle.std.specs.Prelude.{◌≡◌, ℕ, ◌==◌, List, [], ◌∷◌, Bool, Option, Some, None, if◌then◌else◌, map, slice_get, Result, Vec}
use Rattle.std.specs.declared.alloc.Global.{Global}
use Rattle.class_model.specs.declared.memory.Memory.{Memory}
use Rattle.job_rules.specs.Tried.{Tried}
use Rattle.worker_gate.specs.Hands.{Reading, Runs}
use Rattle.worker_gate.specs.Sharing.{SharedSo}
use Rattle.worker_gate.specs.declared.ends.CellEnd.{CellEnd}
use Rattle.worker_gate.specs.declared.ends.JobCells.{JobCells}
use Rattle.worker_checks.specs.declared.rows.Row.{Row}
use Rattle.worker_checks.specs.declared.rows.RowHands.{RowHands}
use Rattle.worker_checks.specs.declared.rows.RowRecord.{RowRecord}

abbrev pub row_reading : Reading RowRecord RowRecord RowRecord ℕ
row_reading = record {
  made_of = λ r. r;
  found_of = λ r. r;
  say = λ r. r.state;
  steps = λ r. r.steps;
}

-- what old results have of a run
abbrev pub found_of : Bool → RowRecord → Option RowRecord
found_of found r = if found then Some r else None

abbrev pub tried : Bool → ℕ → RowRecord → Tried RowRecord
tried found test r = record { test = test; found = found_of found r; made = r }

abbrev pub runs_of : Bool → Row → List (Tried RowRecord)
runs_of found row = tried found 0 row.first ∷ tried found 1 row.second ∷ []

abbrev pub job_of : RowHands → Runs RowRecord
job_of hands = map (runs_of hands.found) hands.rows

-- the record of a test's run on a mutant
abbrev pub in_row : ℕ → Option Row → Option RowRecord
in_row test None = None
in_row test (Some row) = if test == 0 then Some row.first else Some row.second

abbrev pub record_at : List Row → ℕ → ℕ → Option RowRecord
record_at rows mutant test = in_row test (slice_get rows mutant)

-- ---- six rows

abbrev pub passed : ℕ → RowRecord
passed steps = record { state = None; steps = steps }

abbrev pub killed : ℕ → RowRecord
killed steps = record { state = Some 1; steps = steps }

abbrev pub row : RowRecord → RowRecord → Row
row first second = record { first = first; second = second }

abbrev pub below_zero : List Row
below_zero =
    row (passed 15) (killed 15)
    ∷ row (killed 15) (killed 15)
    ∷ row (killed 17) (passed 15)
    ∷ row (passed 17) (passed 15)
    ∷ row (passed 15) (passed 17)
    ∷ row (passed 15) (killed 17)
    ∷ []

-- their cells
abbrev pub row_cells : Bool → JobCells
row_cells all = record {
  mutants = 0 ∷ 0 ∷ 1 ∷ 1 ∷ 2 ∷ 2 ∷ 3 ∷ 3 ∷ 4 ∷ 4 ∷ 5 ∷ 5 ∷ [];
  tests = 0 ∷ 1 ∷ 0 ∷ 1 ∷ 0 ∷ 1 ∷ 0 ∷ 1 ∷ 0 ∷ 1 ∷ 0 ∷ 1 ∷ [];
  count = 6;
  all = all;
}

abbrev pub below_zero_runs : Bool → Runs RowRecord
below_zero_runs found = map (runs_of found) below_zero

-- hands for these six rows
pub record IsFresh (found : Bool) (hands : RowHands) : Type 0 where
  pub rows : hands.rows ≡ below_zero
  pub found_is : hands.found ≡ found

-- what their cells say
abbrev pub RowsSaid :
    Bool → ℕ → Runs RowRecord → ℕ → ℕ →
    Result (Vec (CellEnd RowRecord RowRecord) Global) Memory → Type 0
RowsSaid all workers ms before after result =
    SharedSo row_reading all workers ms before after result
