-- The ends that workers have fill the places of all cells, each once.
use Rattle.std.specs.Prelude.{◌≡◌, ℕ, List, Bool, Option, Some, None, map, length, replicate}
use Rattle.claim_core.specs.Claims.{Claims}
use Rattle.job_rules.specs.Tried.{Tried}
use Rattle.job_rules.specs.Ended.{Ended, cost_of_all_ends}
use Rattle.job_rules.specs.Gathered.{flat, put_all, cost_of_workers}
use Rattle.job_rules.specs.Worked.{AllDid, AreGathered, parted}

-- the ends in order: each of some worker, and they cost what the workers' executed cells cost
pub record FillsAll
    {Rec : Type 0} (steps : Rec → ℕ) (mutants : List (List (Tried Rec))) (c : Claims)
    (ends : List (List (ℕ × Ended Rec)))
    : Type 0 where
  pub gathered : List (Ended Rec)
  pub filled : put_all (flat ends) (replicate c.cells None) ≡ map Some gathered
  pub are : AreGathered (length c.lists) c.cells ends gathered
  pub costs : cost_of_all_ends steps (parted mutants gathered) ≡ cost_of_workers steps ends

abbrev pub WorkersFillAll : (Rec S : Type 0) → Type 0
WorkersFillAll Rec S =
    (say : Rec → Option S) (steps : Rec → ℕ) (all : Bool) (mutants : List (List (Tried Rec)))
    (order : List ℕ) (c : Claims) (ends : List (List (ℕ × Ended Rec))) →
    AllDid say all mutants order c ends →
    length ends ≡ length c.lists → FillsAll steps mutants c ends
