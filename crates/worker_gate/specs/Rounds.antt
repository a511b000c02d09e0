-- The order in which cells are drawn: round by round (this project's own).
use Rattle.std.specs.Prelude.{◌≡◌, ℕ, zero, suc, ◌<◌, ◌≤◌, List, length, Bool, true, false, not, if◌then◌else◌, nat_eq, map, Option, Some, None, slice_get}
use Rattle.claim_core.specs.Ending.{Cell}
use Rattle.job_rules.specs.Worked.{IsOrderOf}
use Rattle.worker_gate.specs.Ends.{mutant_at}

-- Cells stand by mutant: of these, the mutants of the cells, none is below the one before it.
abbrev pub StandByMutant : List ℕ → Type 0
StandByMutant ms = (n a b : ℕ) → slice_get ms n ≡ Some a → slice_get ms (suc n) ≡ Some b → a ≤ b

abbrev pub same_numbers : Option ℕ → Option ℕ → Bool
same_numbers None b = false
same_numbers (Some a) None = false
same_numbers (Some a) (Some b) = nat_eq a b

-- The cell behind the one of this number is of the same mutant.
abbrev pub goes_on : List ℕ → ℕ → Bool
goes_on ms n = same_numbers (slice_get ms n) (slice_get ms (suc n))

-- The round of a cell: how many cells of its mutant stand before it.
abbrev pub round_of : List ℕ → ℕ → ℕ
round_of ms zero = 0
round_of ms (suc n) = if goes_on ms n then suc (round_of ms n) else 0

-- The cell of this number is the first one of its mutant.
abbrev pub is_first : List ℕ → ℕ → Bool
is_first ms zero = true
is_first ms (suc n) = not (goes_on ms n)

-- The first cells of mutants among so many cells, in their order.
pub record AreFirsts (ms : List ℕ) (n : ℕ) (order : List ℕ) : Type 0 where
  pub within : (d m : ℕ) → slice_get order d ≡ Some m → (m < n) × (is_first ms m ≡ true)
  pub ascend : (d e m k : ℕ) → slice_get order d ≡ Some m → slice_get order e ≡ Some k → d < e →
      m < k
  pub each : (m : ℕ) → m < n → is_first ms m ≡ true → (d : ℕ) × (slice_get order d ≡ Some m)

-- Cells that are drawn: the first ones, and behind the first d of these the next of each.
pub record Grows (ms : List ℕ) (d : ℕ) (order : List ℕ) : Type 0 where
  pub within : (e n : ℕ) → slice_get order e ≡ Some n → n < length ms
  pub once : (e f n : ℕ) → slice_get order e ≡ Some n → slice_get order f ≡ Some n → e ≡ f
  pub firsts : (n : ℕ) → n < length ms → is_first ms n ≡ true → (e : ℕ) × (slice_get order e ≡ Some n)
  pub next : (e n : ℕ) → e < d → slice_get order e ≡ Some n → goes_on ms n ≡ true →
      (f : ℕ) × (e < f) × (slice_get order f ≡ Some (suc n))
  pub came : (e n : ℕ) → slice_get order e ≡ Some (suc n) → goes_on ms n ≡ true →
      (f : ℕ) × (f < e) × (f < d) × (slice_get order f ≡ Some n)
  pub mono : (e f m n : ℕ) → slice_get order e ≡ Some m → slice_get order f ≡ Some n → e < f →
      round_of ms m ≤ round_of ms n
  pub ahead : (e f m n : ℕ) → slice_get order e ≡ Some m → slice_get order f ≡ Some n → d ≤ f →
      round_of ms m ≤ suc (round_of ms n)

-- Each cell is drawn once, those of one mutant in their order, and no cell before one of an earlier
-- round.
pub record AreRounds (ms order : List ℕ) : Type 0 where
  pub order_is : (cells : List Cell) → map mutant_at cells ≡ ms → IsOrderOf cells order
  pub rounds : (d e m n : ℕ) → slice_get order d ≡ Some m → slice_get order e ≡ Some n → d < e →
      round_of ms m ≤ round_of ms n
