-- The first place at which a test passes, among items with one more behind them.
use Rattle.std.proofs.Common.{◌≡◌, ◌∙◌, ℕ, zero, suc, ◌+◌, ◌<◌, ◌≤◌, Bool, true, false, cond, List, [], ◌∷◌, ◌++◌, length, Option, Some, None, refl, sym, ap, subst, arith}
use Rattle.std.specs.Prelude.{slice_get, ◌||◌, nat_eq, nat_lt}
use Rattle.std.specs.List.{position_from, AllByRecursion}
use Rattle.std.specs.Option.{option_or, unwrap_or}
use Rattle.std.proofs.lemmas.Bool.{eq-eqb, eqb-true, lt-ltb, ltb-true, ne_eqb}
use Rattle.history_index.specs.Lookouts.{earlier}

pub some_is : (a b : ℕ) → Some a ≡ Some b → a ≡ b
some_is a b e = ap (λ (o : Option ℕ). unwrap_or o a) e

shifted : (k n : ℕ) → (k + 1) + n ≡ k + suc n
shifted k n = omega arith

from_zero : (k : ℕ) → k ≡ k + 0
from_zero k = omega arith

pub zero_apart : (n : ℕ) → nat_eq 0 (suc n) ≡ false
zero_apart n = ne_eqb 0 (suc n) (λ e. let s = e in omega (arith, s))

pub suc_apart : (n : ℕ) → nat_eq (suc n) 0 ≡ false
suc_apart n = ne_eqb (suc n) 0 (λ e. let s = e in omega (arith, s))

pub eq_suc : (m n : ℕ) → nat_eq (suc m) (suc n) ≡ nat_eq m n
eq_suc m n = by (nat_eq (suc m) (suc n)) (nat_eq m n) refl refl
  where
    by : (a b : Bool) → a ≡ nat_eq (suc m) (suc n) → b ≡ nat_eq m n → a ≡ b
    by true true e f = refl
    by false false e f = refl
    by true false e f =
        let s = eqb-true (suc m) (suc n) (sym e) in
        let is : m ≡ n = omega (arith, s) in
        sym (eq-eqb m n is) ∙ sym f
    by false true e f = e ∙ eq-eqb (suc m) (suc n) (ap suc (eqb-true m n (sym f)))

-- ---- one item more

more_none : (k : ℕ) (b : Bool) → cond b (Some k) None ≡ cond b (Some (k + 0)) None
more_none k true = ap (λ (j : ℕ). Some j) (from_zero k)
more_none k false = refl

more_case : (k : ℕ) (b : Bool) (p q o : Option ℕ) → q ≡ option_or p o → cond b (Some k) q ≡ option_or (cond b (Some k) p) o
more_case k true p q o h = refl
more_case k false p q o h = h

pub position_more : {X : Type 0} (p : X → Bool) (k : ℕ) (xs : List X) (r : X) → position_from p k (xs ++ r ∷ []) ≡ option_or (position_from p k xs) (cond (p r) (Some (k + length xs)) None)
position_more p k [] r = more_none k (p r)
position_more p k (x ∷ xs) r =
    more_case k (p x) (position_from p (k + 1) xs) (position_from p (k + 1) (xs ++ r ∷ [])) (cond (p r) (Some (k + suc (length xs))) None)
    (position_more p (k + 1) xs r ∙ ap (λ (j : ℕ). option_or (position_from p (k + 1) xs) (cond (p r) (Some j) None)) (shifted k (length xs)))

-- ---- where it is

low_case : (k i : ℕ) (b : Bool) (o : Option ℕ) → (o ≡ Some i → k + 1 ≤ i) → cond b (Some k) o ≡ Some i → k ≤ i
low_case k i true o h e = let same : k ≡ i = some_is k i e in omega (arith, same)
low_case k i false o h e = let le = h e in omega (arith, le)

pub position_low : {X : Type 0} (p : X → Bool) (k i : ℕ) (xs : List X) → position_from p k xs ≡ Some i → k ≤ i
position_low p k i [] e = absurd cc
position_low p k i (x ∷ xs) e = low_case k i (p x) (position_from p (k + 1) xs) (position_low p (k + 1) i xs) e

-- the item at a place that was found
abbrev pub At : {X : Type 0} → (X → Bool) → ℕ → ℕ → List X → Type 0
At {X} p k i xs = (x : X) × (j : ℕ) × (i ≡ k + j) × (slice_get xs j ≡ Some x) × (p x ≡ true)

at_case : {X : Type 0} (p : X → Bool) (k i : ℕ) (x : X) (xs : List X) (b : Bool) → b ≡ p x → (position_from p (k + 1) xs ≡ Some i → At p (k + 1) i xs) → cond b (Some k) (position_from p (k + 1) xs) ≡ Some i → At p k i (x ∷ xs)
at_case p k i x xs true e h s = let is : k ≡ i = some_is k i s in (x, 0, omega (arith, is), refl, sym e)
at_case p k i x xs false e h s =
    let r = h s in
    let is = r.2 in
    (r.0, suc r.1, omega (arith, is), r.3, r.4)

pub position_at : {X : Type 0} (p : X → Bool) (k i : ℕ) (xs : List X) → position_from p k xs ≡ Some i → At p k i xs
position_at p k i [] e = absurd cc
position_at p k i (x ∷ xs) e = at_case p k i x xs (p x) refl (position_at p (k + 1) i xs) e

pub get_within : {X : Type 0} (xs : List X) (j : ℕ) (x : X) → slice_get xs j ≡ Some x → j < length xs
get_within [] j x e = absurd cc
get_within (y ∷ ys) zero x e = omega arith
get_within (y ∷ ys) (suc j) x e = let lt = get_within ys j x e in omega (arith, lt)

pub position_within : {X : Type 0} (p : X → Bool) (i : ℕ) (xs : List X) → position_from p 0 xs ≡ Some i → i < length xs
position_within p i xs e = let r = position_at p 0 i xs e in let lt = get_within xs r.1 r.0 r.3 in let is = r.2 in omega (arith, lt, is)

pub position_found : {X : Type 0} (p : X → Bool) (i : ℕ) (xs : List X) → position_from p 0 xs ≡ Some i → (x : X) × (slice_get xs i ≡ Some x) × (p x ≡ true)
position_found p i xs e =
    let r = position_at p 0 i xs e in
    let is = r.2 in
    let same : r.1 ≡ i = omega (arith, is) in
    (r.0, subst (λ j. slice_get xs j ≡ Some r.0) same r.3, r.4)

-- ---- two tests

pub position_on : {X : Type 0} (p q : X → Bool) (k : ℕ) (xs : List X) → AllByRecursion (λ x. p x ≡ q x) xs → position_from p k xs ≡ position_from q k xs
position_on p q k [] all = refl
position_on p q k (x ∷ xs) all = ap (λ b. cond b (Some k) (position_from p (k + 1) xs)) all.0 ∙ ap (λ (o : Option ℕ). cond (q x) (Some k) o) (position_on p q (k + 1) xs all.1)

never_case : (k : ℕ) (b : Bool) (o : Option ℕ) → b ≡ false → None ≡ o → None ≡ cond b (Some k) o
never_case k true o e h = absurd cc
never_case k false o e h = h

pub position_never : {X : Type 0} (p : X → Bool) (k : ℕ) (xs : List X) → AllByRecursion (λ x. p x ≡ false) xs → None ≡ position_from p k xs
position_never p k [] all = refl
position_never p k (x ∷ xs) all = never_case k (p x) (position_from p (k + 1) xs) all.0 (position_never p (k + 1) xs all.1)

pub position_same : {X : Type 0} (p q : X → Bool) (k : ℕ) (xs : List X) → ((x : X) → p x ≡ q x) → position_from p k xs ≡ position_from q k xs
position_same p q k [] h = refl
position_same p q k (x ∷ xs) h = ap (λ b. cond b (Some k) (position_from p (k + 1) xs)) (h x) ∙ ap (λ (o : Option ℕ). cond (q x) (Some k) o) (position_same p q (k + 1) xs h)

one_of : (k : ℕ) (b : Bool) → Some k ≡ Some (cond b k k)
one_of k true = refl
one_of k false = refl

not_before : (k j : ℕ) (b : Bool) → b ≡ nat_lt j k → k + 1 ≤ j → Some k ≡ Some (cond b j k)
not_before k j true e le = absurd (let lt : j < k = ltb-true j k (sym e) in omega (arith, lt, le))
not_before k j false e le = refl

before_it : (k j : ℕ) (b : Bool) → b ≡ nat_lt k j → k + 1 ≤ j → Some k ≡ Some (cond b k j)
before_it k j true e le = refl
before_it k j false e le = absurd (let lt : k < j = omega (arith, le) in let t : nat_lt k j ≡ true = lt-ltb k j lt in let f : true ≡ false = sym t ∙ sym e in cc)

first_is : (k : ℕ) (o : Option ℕ) → ((j : ℕ) → o ≡ Some j → k + 1 ≤ j) → Some k ≡ earlier (Some k) o
first_is k None low = refl
first_is k (Some j) low = not_before k j (nat_lt j k) refl (low j refl)

other_is : (k : ℕ) (o : Option ℕ) → ((j : ℕ) → o ≡ Some j → k + 1 ≤ j) → Some k ≡ earlier o (Some k)
other_is k None low = refl
other_is k (Some j) low = before_it k j (nat_lt k j) refl (low j refl)

either_case : (k : ℕ) (a b : Bool) (p q o : Option ℕ) → ((j : ℕ) → p ≡ Some j → k + 1 ≤ j) → ((j : ℕ) → q ≡ Some j → k + 1 ≤ j) → o ≡ earlier p q → cond (a || b) (Some k) o ≡ earlier (cond a (Some k) p) (cond b (Some k) q)
either_case k true true p q o low other h = one_of k (nat_lt k k)
either_case k true false p q o low other h = first_is k q other
either_case k false true p q o low other h = other_is k p low
either_case k false false p q o low other h = h

pub position_either : {X : Type 0} (a b : X → Bool) (k : ℕ) (xs : List X) → position_from (λ x. a x || b x) k xs ≡ earlier (position_from a k xs) (position_from b k xs)
position_either a b k [] = refl
position_either a b k (x ∷ xs) =
    either_case k (a x) (b x) (position_from a (k + 1) xs) (position_from b (k + 1) xs) (position_from (λ x. a x || b x) (k + 1) xs)
    (λ j. position_low a (k + 1) j xs) (λ j. position_low b (k + 1) j xs) (position_either a b (k + 1) xs)
