-- What workers leave is an end of each cell that the laws of mutants speak of; of one worker it is
-- an exact one.
use Rattle.std.specs.Prelude.{◌≡◌, ℕ, List, Bool, false, Option, All, length}
use Rattle.claim_core.specs.Claims.{Claims}
use Rattle.job_rules.specs.Tried.{Tried, Ascend}
use Rattle.job_rules.specs.Ended.{Ended, AreAllEnds, AllSkipBehind}
use Rattle.job_rules.specs.Worked.{AllDid, AreGathered, parted}

abbrev pub WorkersEndCells : (Rec S : Type 0) → Type 0
WorkersEndCells Rec S =
    (say : Rec → Option S) (all : Bool) (mutants : List (List (Tried Rec))) (order : List ℕ)
    (c : Claims) (ends : List (List (ℕ × Ended Rec))) (gathered : List (Ended Rec)) →
    AllDid say all mutants order c ends → AreGathered (length c.lists) c.cells ends gathered →
    AreAllEnds say all mutants (parted mutants gathered)

abbrev pub OneSkipsBehind : (Rec S : Type 0) → Type 0
OneSkipsBehind Rec S =
    (say : Rec → Option S) (mutants : List (List (Tried Rec))) (order : List ℕ) (c : Claims)
    (ends : List (List (ℕ × Ended Rec))) (gathered : List (Ended Rec)) → All Ascend mutants →
    AllDid say false mutants order c ends → AreGathered (length c.lists) c.cells ends gathered →
    length c.lists ≡ 1 → AllSkipBehind say mutants (parted mutants gathered)
