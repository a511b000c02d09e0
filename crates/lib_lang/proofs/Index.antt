-- Loops over the places of a text.
use Rattle.std.proofs.Common.{◌≡◌, ap, ℕ, zero, suc, ◌<◌, ◌≤◌, false, true, List, [], ◌∷◌, length, drop, None, Some, refl, arith}
use Rattle.std.specs.Prelude.{nat_eq, if◌then◌else◌}
use Rattle.std.specs.List.{starts_with}
use Rattle.library_rules.specs.Texts.{index_from, first_difference}

-- ---- a search goes on behind a place where the text doesn't stand

pub index_step :
    (wanted units : List ℕ) (i k : ℕ) → i < length units →
    starts_with nat_eq (drop i units) wanted ≡ false →
    index_from wanted k (drop i units) ≡ index_from wanted (suc k) (drop (suc i) units)
index_step wanted [] i k lt apart = absurd (omega (arith, lt))
index_step wanted (u ∷ us) zero k lt apart =
    ap (λ b. if b then Some k else index_from wanted (suc k) us) apart
index_step wanted (u ∷ us) (suc i) k lt apart = index_step wanted us i k (omega arith) apart

pub index_found :
    (wanted units : List ℕ) (i k : ℕ) → i < length units →
    starts_with nat_eq (drop i units) wanted ≡ true →
    index_from wanted k (drop i units) ≡ Some k
index_found wanted [] i k lt here = absurd (omega (arith, lt))
index_found wanted (u ∷ us) zero k lt here =
    ap (λ b. if b then Some k else index_from wanted (suc k) us) here
index_found wanted (u ∷ us) (suc i) k lt here = index_found wanted us i k (omega arith) here

-- ---- behind the end of a text nothing differs

nothing : (us : List ℕ) → first_difference us [] ≡ None
nothing [] = refl
nothing (u ∷ us) = refl

pub nothing_left :
    (us vs : List ℕ) (i : ℕ) → length vs ≤ i → first_difference us (drop i vs) ≡ None
nothing_left us [] zero le = nothing us
nothing_left us [] (suc i) le = nothing us
nothing_left us (v ∷ vs) zero le = absurd (omega (arith, le))
nothing_left us (v ∷ vs) (suc i) le = nothing_left us vs i (omega arith)
