-- The cells of six rows, and hands for them.
use Rattle.std.proofs.Common.{◌≡◌, ℕ, zero, suc, ◌+◌, ◌*◌, ◌<◌, ◌≤◌, ◌^◌, List, [], ◌∷◌, Bool, true, false, length, map, refl, sym, ap, ap₂, subst, arith, All, slice_index_or}
use Rattle.claim_core.specs.Claims.{no_place}
use Rattle.claim_core.specs.Ending.{Cell}
use Rattle.job_rules.specs.Tried.{Ascend, Tried, cost_of_all}
use Rattle.job_rules.specs.Worked.{cells_of}
use Rattle.worker_gate.specs.Sharing.{AreCellsOf, MayShare, Shared, SharedSo}
use Rattle.worker_gate.specs.declared.ends.CellEnd.{CellEnd}
use Rattle.worker_gate.specs.declared.ends.JobCells.{JobCells}
use Rattle.std.specs.Prelude.{Result, Vec}
use Rattle.std.specs.declared.alloc.Global.{Global}
use Rattle.class_model.specs.declared.memory.Memory.{Memory}
use Rattle.worker_checks.specs.Rows.{below_zero, below_zero_runs, IsFresh, job_of, row_cells, row_reading, runs_of, RowsSaid}
use Rattle.worker_checks.specs.declared.rows.Row.{Row}
use Rattle.worker_checks.specs.declared.rows.RowHands.{RowHands}
use Rattle.worker_checks.specs.declared.rows.RowRecord.{RowRecord}

cost_is : (found : Bool) → cost_of_all row_reading.steps (below_zero_runs found) ≤ 188
cost_is true = let e : cost_of_all row_reading.steps (below_zero_runs true) ≡ 0 = refl in omega (arith, e)
cost_is false = let e : cost_of_all row_reading.steps (below_zero_runs false) ≡ 188 = refl in omega (arith, e)

small : (found : Bool) (k : ℕ) (d : Cell) → k < 12 → (slice_index_or (cells_of (below_zero_runs found)) k d).place < no_place
small found zero d lt = omega arith
small found (suc zero) d lt = omega arith
small found (suc (suc zero)) d lt = omega arith
small found (suc (suc (suc zero))) d lt = omega arith
small found (suc (suc (suc (suc zero)))) d lt = omega arith
small found (suc (suc (suc (suc (suc zero))))) d lt = omega arith
small found (suc (suc (suc (suc (suc (suc zero)))))) d lt = omega arith
small found (suc (suc (suc (suc (suc (suc (suc zero))))))) d lt = omega arith
small found (suc (suc (suc (suc (suc (suc (suc (suc zero)))))))) d lt = omega arith
small found (suc (suc (suc (suc (suc (suc (suc (suc (suc zero))))))))) d lt = omega arith
small found (suc (suc (suc (suc (suc (suc (suc (suc (suc (suc zero)))))))))) d lt = omega arith
small found (suc (suc (suc (suc (suc (suc (suc (suc (suc (suc (suc zero))))))))))) d lt = omega arith
small found (suc (suc (suc (suc (suc (suc (suc (suc (suc (suc (suc (suc k)))))))))))) d lt = absurd (omega arith)

row_ascends : (found : Bool) (row : Row) → Ascend (runs_of found row)
row_ascends found row zero zero d lt h = absurd (omega (arith, lt))
row_ascends found row zero (suc zero) d lt h = omega arith
row_ascends found row zero (suc (suc j)) d lt h = absurd (omega (arith, h))
row_ascends found row (suc i) zero d lt h = absurd (omega (arith, lt))
row_ascends found row (suc i) (suc j) d lt h = absurd (omega (arith, lt, h))

rows_ascend : (found : Bool) (rows : List Row) (k : ℕ) (d : List (Tried RowRecord)) → k < length rows → Ascend (slice_index_or (map (runs_of found) rows) k d)
rows_ascend found [] k d lt = absurd (omega (arith, lt))
rows_ascend found (row ∷ rows) zero d lt = row_ascends found row
rows_ascend found (row ∷ rows) (suc k) d lt = rows_ascend found rows k d (omega (arith, lt))

cells_fit : (found all : Bool) → AreCellsOf row_reading (below_zero_runs found) (row_cells all)
cells_fit found all =
    let cost = cost_is found in
    record {
      mutants = refl;
      tests = refl;
      count = refl;
      few = omega arith;
      fit = omega arith;
      ascend = rows_ascend found below_zero;
      places = small found;
      room = omega (arith, cost);
    }

runs_are : (found : Bool) (hands : RowHands) → IsFresh found hands → job_of hands ≡ below_zero_runs found
runs_are found hands f = ap₂ (λ b rows. map (runs_of b) rows) f.found_is f.rows

pub hands_are : (found : Bool) (hands : List RowHands) → All (IsFresh found) hands → All (λ h. job_of h ≡ below_zero_runs found) hands
hands_are found hands fresh = λ k d lt. runs_are found (slice_index_or hands k d) (fresh k d lt)

room_for : (found : Bool) (n meter : ℕ) → n < 2 ^ 16 → meter < 2 ^ 63 → meter + n * cost_of_all row_reading.steps (below_zero_runs found) < 2 ^ 64
room_for true n meter few low = let e : cost_of_all row_reading.steps (below_zero_runs true) ≡ 0 = refl in subst (λ c. meter + n * c < 2 ^ 64) (sym e) (omega (arith, few, low))
room_for false n meter few low = let e : cost_of_all row_reading.steps (below_zero_runs false) ≡ 188 = refl in subst (λ c. meter + n * c < 2 ^ 64) (sym e) (omega (arith, few, low))

pub may_share : (found all : Bool) (hands : List RowHands) (workers meter : ℕ) → length hands ≡ workers → 0 < workers → workers < 2 ^ 16 → meter < 2 ^ 63 → All (IsFresh found) hands → MayShare row_reading job_of (row_cells all) hands meter
may_share found all hands workers meter long some few room fresh =
    record {
      some = omega (arith, long, some);
      few = omega (arith, long, few);
      job = below_zero_runs found;
      each = hands_are found hands fresh;
      of = cells_fit found all;
      room = room_for found (length hands) meter (omega (arith, long, few)) room;
    }

pub said : (found all : Bool) (hands : List RowHands) (workers before after : ℕ) (cells : JobCells) (result : Result (Vec (CellEnd RowRecord RowRecord) Global) Memory) → cells ≡ row_cells all → length hands ≡ workers → All (IsFresh found) hands → Shared row_reading job_of cells hands before after result → RowsSaid all workers (below_zero_runs found) before after result
said found all hands workers before after cells result is long fresh s =
    subst (λ n. SharedSo row_reading all n (below_zero_runs found) before after result) long
    (subst (λ b. SharedSo row_reading b (length hands) (below_zero_runs found) before after result) (ap (λ (c : JobCells). c.all) is)
    (s.shared (below_zero_runs found) (hands_are found hands fresh)))
