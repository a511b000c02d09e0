-- The runs of a job, what they say of mutants, which of them are needed, and what they cost. A
-- record of a run is of any type; what it says and how long it took are given (this project's own).
use Rattle.std.specs.Prelude.{◌≡◌, ◌<◌, ℕ, ◌+◌, List, [], ◌∷◌, ◌++◌, Bool, true, false, ◌||◌, if◌then◌else◌, map, length, All}
use Rattle.std.specs.Prelude.{Option, Some, None, is_some, AllPairs}
use Rattle.std.specs.List.{filter}
use Rattle.std.specs.Option.{unwrap_or}

-- A test's run on a mutant, or on the program as it is: the test's number; the record that old
-- results have of this run, if they have one; and the record of the run itself.
pub record Tried (Rec : Type 0) : Type 0 where
  pub test : ℕ
  pub found : Option Rec
  pub made : Rec

-- The record that stands for a run: the found one, else its own.
abbrev pub known : {Rec : Type 0} → Tried Rec → Rec
known t = unwrap_or t.found t.made

abbrev pub knowns : {Rec : Type 0} → List (Tried Rec) → List Rec
knowns ts = map known ts

-- The tests of a mutant stand in their order.
abbrev pub Ascend : {Rec : Type 0} → List (Tried Rec) → Type 0
Ascend ts = AllPairs (λ t u. t.test < u.test) ts

-- Of the runs of tests, by what each says of the mutant: the first that says something, or all of
-- these, with the tests' numbers.
abbrev pub detections_in : {S : Type 0} → Bool → List (ℕ × Option S) → List (ℕ × S)
detections_in all [] = []
detections_in all ((test, None) ∷ said) = detections_in all said
detections_in all ((test, Some state) ∷ said) =
    (test, state) ∷ (if all then detections_in all said else [])

-- ---- what runs say

module _ {Rec S : Type 0} (say : Rec → Option S) where
  -- The run detects the mutant: it says something of it.
  abbrev pub detects : Tried Rec → Bool
  detects t = is_some (say (known t))

  abbrev pub saying : Tried Rec → ℕ × Option S
  saying t = (t.test, say (known t))

  -- The tests that detect a mutant, each with the state that it gives: the first one, or all.
  abbrev pub detections : Bool → List (Tried Rec) → List (ℕ × S)
  detections all ts = detections_in all (map saying ts)

  -- The runs that a mutant needs: all, or those up to the first that detects it, with that one.
  abbrev pub needed : Bool → List (Tried Rec) → List (Tried Rec)
  needed all [] = []
  needed all (t ∷ ts) =
      t ∷ (if all then needed all ts else (if detects t then [] else needed all ts))

  -- The runs that all mutants need, one mutant after the other.
  abbrev pub needed_of_all : Bool → List (List (Tried Rec)) → List (Tried Rec)
  needed_of_all all [] = []
  needed_of_all all (ts ∷ mutants) = needed all ts ++ needed_of_all all mutants

-- ---- what runs cost

module _ {Rec : Type 0} (steps : Rec → ℕ) where
  -- The steps of a run, where old results don't have it.
  abbrev pub cost_of_run : Tried Rec → ℕ
  cost_of_run t = if is_some t.found then 0 else steps t.made

  abbrev pub cost_of : List (Tried Rec) → ℕ
  cost_of [] = 0
  cost_of (t ∷ ts) = cost_of_run t + cost_of ts

  -- Those of all tests that cover mutants.
  abbrev pub cost_of_all : List (List (Tried Rec)) → ℕ
  cost_of_all [] = 0
  cost_of_all (ts ∷ mutants) = cost_of ts + cost_of_all mutants

-- Those that mutants need.
abbrev pub need_cost :
    {Rec S : Type 0} → (Rec → Option S) → (Rec → ℕ) → Bool → List (List (Tried Rec)) → ℕ
need_cost say steps all [] = 0
need_cost say steps all (ts ∷ mutants) =
    cost_of steps (needed say all ts) + need_cost say steps all mutants

-- ---- a whole job

-- The tests' runs on the program as it is, in their order; and for each mutant those of the tests
-- that cover it, in their order. None cover one that isn't viable.
pub record JobRuns (Rec : Type 0) : Type 0 where
  pub originals : List (Tried Rec)
  pub mutants : List (List (Tried Rec))

-- The runs that are needed.
abbrev pub need : {Rec S : Type 0} → (Rec → Option S) → Bool → JobRuns Rec → List (Tried Rec)
need say all j = j.originals ++ needed_of_all say all j.mutants

-- What they cost, and what all runs cost.
abbrev pub least_cost :
    {Rec S : Type 0} → (Rec → Option S) → (Rec → ℕ) → Bool → JobRuns Rec → ℕ
least_cost say steps all j = cost_of steps j.originals + need_cost say steps all j.mutants

abbrev pub most_cost : {Rec : Type 0} → (Rec → ℕ) → JobRuns Rec → ℕ
most_cost steps j = cost_of steps j.originals + cost_of_all steps j.mutants

-- ---- the new records

module _ {Rec : Type 0} (same : Rec → Rec → Bool) where
  abbrev pub is_among : List (Tried Rec) → Tried Rec → Bool
  is_among [] t = false
  is_among (u ∷ us) t = same (known u) (known t) || is_among us t

  -- The first run of each record, where these stand before.
  abbrev pub firsts_after : List (Tried Rec) → List (Tried Rec) → List (Tried Rec)
  firsts_after seen [] = []
  firsts_after seen (t ∷ ts) =
      if is_among seen t then firsts_after seen ts else t ∷ firsts_after (t ∷ seen) ts

  -- The records of these runs, equal ones once, at their first place; and how many of them old
  -- results had.
  abbrev pub records_once : List (Tried Rec) → List Rec
  records_once ts = knowns (firsts_after [] ts)

  abbrev pub reused_among : List (Tried Rec) → ℕ
  reused_among ts = length (filter (λ t. is_some t.found) (firsts_after [] ts))
