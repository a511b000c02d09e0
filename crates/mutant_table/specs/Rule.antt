-- The words and seats of a claim table are a state of the claims, at every moment. This project's
-- own.
use Rattle.std.specs.Prelude.{◌≡◌, ◌≢◌, ℕ, ◌+◌, ◌-◌, ◌<◌, ◌≤◌, ◌^◌, true, false}
use Rattle.std.specs.Prelude.{List, [], ◌∷◌, ◌++◌, All, length, slice_index_or}
use mathlib.Core.Option.{some}
use lib.ListN.{get_elem?}
use Rattle.atomic_table.specs.Table.{State, Step, Me}
use Rattle.claim_core.specs.declared.events.ClaimEntry.{ClaimEntry}
use Rattle.claim_core.specs.declared.events.ClaimEntry.TheVariants.{Claimed, Looked, Detected}
use Rattle.claim_core.specs.Claims.{Claims}
use Rattle.claim_core.specs.Agreement.{ClaimsAgree}
use Rattle.mutant_table.specs.declared.rule.View.{View}
use Rattle.mutant_table.specs.declared.rule.Sizes.{Sizes}
use Rattle.mutant_table.specs.Entries.{ListAgrees}

-- the view of the first seat: worker 0, and no other seat made yet
abbrev pub first_view : Sizes → View
first_view z = record {
  live = true;
  worker = 0;
  entries = [];
  mutants = z.mutants;
  cells = z.cells;
  workers = z.workers;
  made = 1;
  ended = [];
}

abbrev pub spent_view : View
spent_view = record {
  live = false;
  worker = 0;
  entries = [];
  mutants = 0;
  cells = 0;
  workers = 0;
  made = 0;
  ended = [];
}

-- the view once the worker did one thing more
abbrev pub did : View → ClaimEntry → View
did v e = record v { entries = v.entries ++ e ∷ [] }

-- a split: the first seat counts one more, and the new seat has that number and an empty list
abbrev pub made_one : View → View
made_one v = record v { made = v.made + 1 }

abbrev pub seated : View → View
seated v = record v { worker = v.made; entries = []; made = 0; ended = [] }

-- a join: the first seat takes the other's number and list
abbrev pub taken_in : View → View → View
taken_in v w = record v { ended = v.ended ++ (w.worker, w.entries) ∷ [] }

abbrev pub list_at : List (List ClaimEntry) → ℕ → List ClaimEntry
list_at lists k = slice_index_or lists k []

-- the view is of a worker, with its list, at a table of these sizes
pub record IsWorkersView (z : Sizes) (lists : List (List ClaimEntry)) (v : View) : Type 0 where
  pub mutants : v.mutants ≡ z.mutants
  pub cells : v.cells ≡ z.cells
  pub workers : v.workers ≡ z.workers
  pub worker : v.worker < z.workers
  pub entries : v.entries ≡ list_at lists v.worker

-- what the seat of worker 0 knows of the others: how many seats were made, that the further lists
-- are empty, and the lists that ended
pub record LeadsSeats
    (z : Sizes) (lists : List (List ClaimEntry)) (views : List View) (v : View)
    : Type 0 where
  pub made : v.made ≤ z.workers
  pub unmade : (k : ℕ) → v.made ≤ k → list_at lists k ≡ []
  pub ended : All (λ (p : ℕ × List ClaimEntry). (p.0 < v.made) × (p.1 ≡ list_at lists p.0)) v.ended
  pub others : (j : ℕ) (u : View) → get_elem? views j ≡ some u → u.live ≡ true →
      (u.worker < v.made) × All (λ (p : ℕ × List ClaimEntry). p.0 ≢ u.worker) v.ended

-- each view that isn't spent is of a worker, no two of the same one
pub record AreSeated (z : Sizes) (lists : List (List ClaimEntry)) (views : List View) : Type 0 where
  pub each : (id : ℕ) (v : View) → get_elem? views id ≡ some v → v.live ≡ true →
      IsWorkersView z lists v
  pub one : (i j : ℕ) (v w : View) → get_elem? views i ≡ some v → get_elem? views j ≡ some w →
      v.live ≡ true → w.live ≡ true → v.worker ≡ w.worker → i ≡ j
  pub lead : (id : ℕ) (v : View) → get_elem? views id ≡ some v → v.live ≡ true → v.worker ≡ 0 →
      LeadsSeats z lists views v

-- the rule: word 0 is the next number, word 1 + m the least place of mutant m, and the lists stand
-- in the views
pub record IsTableOfClaims (z : Sizes) (s : State ℕ View) : Type 0 where
  pub claims : Claims
  pub agree : ClaimsAgree claims
  pub words : s.words ≡ claims.next ∷ claims.least
  pub cells : claims.cells ≡ z.cells
  pub mutants : length claims.least ≡ z.mutants
  pub workers : length claims.lists ≡ z.workers
  pub room : z.cells + z.workers < 2 ^ 64
  pub seats : AreSeated z claims.lists s.views

-- what a step tells its worker: the word's value, and that its own list is in order
abbrev pub TellsClaim : Step ℕ → Me ℕ View → ℕ → Me ℕ View → Type 0
TellsClaim s me found after =
    (after ≡ (did me.0 (Claimed found), me.1))
    × ListAgrees me.0.cells (me.0.entries ++ Claimed found ∷ [])

abbrev pub TellsLook : Step ℕ → Me ℕ View → ℕ → Me ℕ View → Type 0
TellsLook s me found after =
    (after ≡ (did me.0 (Looked (s.word - 1) found), me.1))
    × ListAgrees me.0.cells (me.0.entries ++ Looked (s.word - 1) found ∷ [])

abbrev pub TellsDetection : Step ℕ → Me ℕ View → ℕ → Me ℕ View → Type 0
TellsDetection s me found after =
    (after ≡ (did me.0 (Detected (s.word - 1) s.first), me.1))
    × ListAgrees me.0.cells (me.0.entries ++ Detected (s.word - 1) s.first ∷ [])
