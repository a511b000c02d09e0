-- Searching among places that ascend.
use Rattle.std.proofs.Common.{◌≡◌, ◌≢◌, ℕ, zero, suc, ◌+◌, ◌^◌, ◌<◌, ◌≤◌, Bool, true, false, eqb, ltb, List, [], ◌∷◌, length, get_or, Some, None, Result, Ok, Err, refl, ap, ◌∙◌, arith, inl, inr}
use Rattle.std.specs.Prelude.{position, MatchResult}
use Rattle.std.specs.Prelude.{ℤ, pos, negsuc, option_and_then}
use Rattle.std.specs.Int.{w64, FitsUnsigned}
use Rattle.std.proofs.lemmas.Int.{ints}
use Rattle.std.specs.Ordering.{nat_cmp}
use Rattle.std.specs.List.Sorted.{IsBinarySearchResult}
use Rattle.std.specs.List.{position_from}
use Rattle.std.specs.Result.{OkIff, result_ok}
use Rattle.std.proofs.lemmas.Bool.{cases_lt, ne_eqb, le-ltb, lt-ltb}
use Rattle.std.proofs.lemmas.Iterator.Adapters.{position_from-zero}
use Rattle.std.proofs.lemmas.List.Sorted.{searched}
use Rattle.mt_insn.specs.Order.{Ascends}
use Rattle.mt_insn.specs.Targets.{narrowed, number_of, place_of}

abbrev pub at_place : ℕ → ℕ → Bool
at_place x start = eqb start x

eqb_self : (x : ℕ) → eqb x x ≡ true
eqb_self x = grind arith

-- the first place that is x
hit : (xs : List ℕ) (x i k : ℕ) → i < length xs → get_or xs i 0 ≡ x → ((j : ℕ) → j < i → get_or xs j 0 ≢ x) → position_from (at_place x) k xs ≡ Some (k + i)
hit [] x i k lt is before = absurd (omega arith)
hit (y ∷ ys) x zero k lt is before = let test : eqb y x ≡ true = rw is (eqb_self x) in let e : k ≡ k + 0 = omega arith in rw test (ap (λ (n : ℕ). Some n) e)
hit (y ∷ ys) x (suc i) k lt is before =
    let test : eqb y x ≡ false = ne_eqb y x (before 0 (omega arith)) in
    let later = hit ys x i (k + 1) (omega arith) is (λ j less. before (suc j) (omega arith)) in
    let e : k + 1 + i ≡ k + suc i = omega arith in
    rw test (later ∙ ap (λ (n : ℕ). Some n) e)

-- no place is x
miss : (xs : List ℕ) (x k : ℕ) → ((j : ℕ) → j < length xs → get_or xs j 0 ≢ x) → position_from (at_place x) k xs ≡ None
miss [] x k never = refl
miss (y ∷ ys) x k never =
    let test : eqb y x ≡ false = ne_eqb y x (never 0 (omega arith)) in
    rw test (miss ys x (k + 1) (λ j less. never (suc j) (omega arith)))

pub absent : (xs : List ℕ) (x : ℕ) → ((j : ℕ) → j < length xs → get_or xs j 0 ≢ x) → position (at_place x) xs ≡ None
absent xs x never = position_from-zero (at_place x) xs ∙ miss xs x 0 never

pub present : (xs : List ℕ) (x i : ℕ) → Ascends xs → i < length xs → get_or xs i 0 ≡ x → position (at_place x) xs ≡ Some i
present xs x i ascends lt is =
    let e : 0 + i ≡ i = omega arith in
    position_from-zero (at_place x) xs ∙ hit xs x i 0 lt is (λ j less same. let below = ascends j i less lt in omega (arith, below, same, is)) ∙ ap (λ (n : ℕ). Some n) e

never_falls : (xs : List ℕ) → Ascends xs → (i j : ℕ) → i ≤ j → j < length xs → get_or xs i 0 ≤ get_or xs j 0
never_falls xs ascends i j le lt =
    elim (cases_lt i j) [
      | inl less ↦ omega (arith, ascends i j less lt)
      | inr more ↦ let same : i ≡ j = omega arith in rw same (omega arith)
    ]

found : (xs : List ℕ) (x : ℕ) (r : Result ℕ ℕ) → Ascends xs → MatchResult r (λ i. (i < length xs) × (get_or xs i 0 ≡ x)) (λ i. (i ≤ length xs) × ((k : ℕ) → k < i → get_or xs k 0 < x) × ((k : ℕ) → i ≤ k → k < length xs → x < get_or xs k 0)) → position (at_place x) xs ≡ result_ok r
found xs x (Ok i) ascends q = present xs x i ascends q.0 q.1
found xs x (Err i) ascends q = absent xs x (λ j lt same. elim (cases_lt j i) [ inl less ↦ omega (arith, q.1 j less, same) | inr more ↦ omega (arith, q.2 j more lt, same) ])

-- what a binary search answers
pub by_search : (xs : List ℕ) (x : ℕ) (r : Result ℕ ℕ) → Ascends xs → IsBinarySearchResult (λ y. nat_cmp y x) xs r → position (at_place x) xs ≡ result_ok r
by_search xs x r ascends s = found xs x r ascends (searched xs x r s (never_falls xs ascends))

not_below : (a b : ℕ) → (a < b → ⊥) → ltb a b ≡ false
not_below a b never = elim (cases_lt a b) [ inl less ↦ absurd (never less) | inr more ↦ le-ltb a b more ]

-- a number that may be too wide
pub narrow_is : {E : Type 0} (n : ℕ) (r : Result ℕ E) → OkIff r (n < 2 ^ 32) n → result_ok r ≡ narrowed n
narrow_is n (Ok m) q = let test : ltb n (2 ^ 32) ≡ true = lt-ltb n (2 ^ 32) q.0 in rw (test, q.1) refl
narrow_is n (Err e) q = let test : ltb n (2 ^ 32) ≡ false = not_below n (2 ^ 32) q in rw test refl

-- no instruction begins past 64 bits
pub unplaced : (starts : List ℕ) (z : ℤ) → ((i : ℕ) → get_or starts i 0 < 2 ^ 64) → (FitsUnsigned w64 z → ⊥) → option_and_then (number_of starts) (place_of z) ≡ None
unplaced starts (pos n) small unfit = ap (option_and_then narrowed) (absent starts n (λ j lt same. let below = small j in unfit (omega (arith, ints), omega (arith, ints, below, same))))
unplaced starts (negsuc n) small unfit = refl
