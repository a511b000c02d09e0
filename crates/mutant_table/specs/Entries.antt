-- What one worker's list says by itself. This project's own.
use Rattle.std.specs.Prelude.{◌≡◌, ◌⊎◌, ℕ, ◌<◌, ◌≤◌, List, [], ◌∷◌, ◌++◌, true, AllPairs, Contains}
use Rattle.claim_core.specs.declared.events.ClaimEntry.{ClaimEntry}
use Rattle.claim_core.specs.declared.events.ClaimEntry.TheVariants.{Claimed, Looked, Detected}
use Rattle.claim_core.specs.Agreement.{Ascends, IsFresh}
use Rattle.claim_core.specs.Claims.{is_exhausted, no_place}

-- what the agreement of the claims says of each list
pub record ListAgrees (cells : ℕ) (entries : List ClaimEntry) : Type 0 where
  pub ascends : AllPairs (Ascends cells) entries
  pub fresh : AllPairs IsFresh entries
  pub detected : (m p : ℕ) → Contains entries (Detected m p) → p < no_place
  pub looked : (m v : ℕ) → Contains entries (Looked m v) → v ≤ no_place

-- the list had run out before and stayed, or runs out by one more draw
abbrev pub RanOut : ℕ → List ClaimEntry → List ClaimEntry → Type 0
RanOut cells before after =
    ((is_exhausted cells before ≡ true) × (after ≡ before))
    ⊎ ((n : ℕ) × (cells ≤ n) × (after ≡ before ++ Claimed n ∷ []))
