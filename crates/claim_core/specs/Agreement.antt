-- What the words and the lists of the claims say of each other, at every moment. This project's
-- own.
use Rattle.std.specs.Prelude.{◌≡◌, ◌⊎◌, ℕ, ◌+◌, ◌<◌, ◌≤◌}
use Rattle.std.specs.Prelude.{List, length, All, AllPairs, Contains, count_by}
use Rattle.claim_core.specs.declared.events.ClaimEntry.{ClaimEntry}
use Rattle.claim_core.specs.declared.events.ClaimEntry.TheVariants.{Claimed, Looked, Detected}
use Rattle.claim_core.specs.declared.events.Event.{Event}
use Rattle.claim_core.specs.Claims.{Claims, list_of, least_of, is_exhausted, no_place}
use Rattle.claim_core.specs.Claims.{IsInRange, after, after_all, started}

-- of two claims of one list: the later number is the greater, and the earlier one is a cell's
abbrev pub Ascends : ℕ → ClaimEntry → ClaimEntry → Type 0
Ascends cells (Claimed a) (Claimed b) = (a < b) × (a < cells)
Ascends cells d e = Unit {0}

-- a look after a detection of the same mutant shows no greater place
abbrev pub IsFresh : ClaimEntry → ClaimEntry → Type 0
IsFresh (Detected m p) (Looked n v) = m ≡ n → v ≤ p
IsFresh d e = Unit {0}

pub record ClaimsAgree (c : Claims) : Type 0 where
  -- a number is claimed exactly where it is below next, and by one worker alone
  pub claimed : (n : ℕ) → n < c.next → (w : ℕ) × Contains (list_of c w) (Claimed n)
  pub below : (w n : ℕ) → Contains (list_of c w) (Claimed n) → n < c.next
  pub apart : (v w n : ℕ) → Contains (list_of c v) (Claimed n) →
      Contains (list_of c w) (Claimed n) → v ≡ w
  -- the numbers of a list ascend, and none follows one at or past the cells
  pub ascends : (w : ℕ) → AllPairs (Ascends c.cells) (list_of c w)
  -- the least place of a mutant is the least that any list detected, or none where there is none
  pub in_range : (w m p : ℕ) → Contains (list_of c w) (Detected m p) →
      (m < length c.least) × (p < no_place)
  pub least : (w m p : ℕ) → Contains (list_of c w) (Detected m p) → least_of c m ≤ p
  pub found : (m : ℕ) → m < length c.least →
      (least_of c m ≡ no_place) ⊎ ((w : ℕ) × Contains (list_of c w) (Detected m (least_of c m)))
  -- a looked place is none or somebody's detection, and at most what its worker detected before
  pub looked : (w m v : ℕ) → Contains (list_of c w) (Looked m v) →
      (v ≡ no_place) ⊎ ((u : ℕ) × Contains (list_of c u) (Detected m v))
  pub fresh : (w : ℕ) → AllPairs IsFresh (list_of c w)
  -- next is at most the number of cells and of lists that have a number at or past it
  pub room : c.next ≤ c.cells + count_by (is_exhausted c.cells) c.lists

-- no list has a detection of the mutant
abbrev pub IsUndetected : Claims → ℕ → Type 0
IsUndetected c mutant = (w p : ℕ) → ¬ Contains (list_of c w) (Detected mutant p)

-- some list has a detection of the mutant at the place, and none at a lower one
abbrev pub IsLeastDetected : Claims → ℕ → ℕ → Type 0
IsLeastDetected c mutant place =
    ((w : ℕ) × Contains (list_of c w) (Detected mutant place))
    × ((w p : ℕ) → Contains (list_of c w) (Detected mutant p) → place ≤ p)

-- claims that agree agree after the event too, if its numbers are of the state
abbrev pub KeepsAgreement : Event → Claims → Type 0
KeepsAgreement event c = IsInRange c event → ClaimsAgree c → ClaimsAgree (after event c)

-- after any events from the start, whose numbers are of the state, the claims agree
abbrev pub RunsAgree : ℕ → ℕ → ℕ → Type 0
RunsAgree mutants cells workers =
    (events : List Event) → All (IsInRange (started mutants cells workers)) events
    → ClaimsAgree (after_all events (started mutants cells workers))
