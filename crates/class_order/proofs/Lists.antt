-- What stands in a list that got one more, got another item, or lost its end.
use Rattle.std.proofs.Common.{◌≡◌, ◌≢◌, ◌⊎◌, inl, inr, ◌∙◌, sym, refl, ap, ℕ, zero, suc, ◌+◌, ◌<◌, ◌≤◌, List, [], ◌∷◌, ◌++◌, length, take, drop, replicate, Some, slice_get, slice_set, arith}
use Rattle.class_order.specs.declared.standing.Standing.{Standing}
use Rattle.class_order.specs.Walks.{summed, Stands}

module _ {A : Type 0} where
  pub last_case : (xs : List A) (x : A) (i : ℕ) (y : A) → slice_get (xs ++ x ∷ []) i ≡ Some y → (slice_get xs i ≡ Some y) ⊎ ((i ≡ length xs) × (y ≡ x))
  last_case [] x zero y h = inr (refl, cc)
  last_case [] x (suc i) y h = absurd cc
  last_case (z ∷ xs) x zero y h = inl h
  last_case (z ∷ xs) x (suc i) y h = elim (last_case xs x i y h) [ inl e ↦ inl e | inr e ↦ inr (omega (arith, e.0), e.1) ]

  pub more : (xs ys : List A) (i : ℕ) (y : A) → slice_get xs i ≡ Some y → slice_get (xs ++ ys) i ≡ Some y
  more [] ys i y h = absurd cc
  more (z ∷ xs) ys zero y h = h
  more (z ∷ xs) ys (suc i) y h = more xs ys i y h

  pub at_last : (xs : List A) (x : A) → slice_get (xs ++ x ∷ []) (length xs) ≡ Some x
  at_last [] x = refl
  at_last (z ∷ xs) x = at_last xs x

  pub set_case : (xs : List A) (i : ℕ) (x : A) (j : ℕ) (y : A) → slice_get (slice_set xs i x) j ≡ Some y → ((j ≡ i) × (y ≡ x)) ⊎ ((j ≢ i) × (slice_get xs j ≡ Some y))
  set_case [] i x j y h = absurd cc
  set_case (z ∷ xs) zero x zero y h = inl (refl, cc)
  set_case (z ∷ xs) zero x (suc j) y h = inr ((λ e. omega (arith, e)), h)
  set_case (z ∷ xs) (suc i) x zero y h = inr ((λ e. omega (arith, e)), h)
  set_case (z ∷ xs) (suc i) x (suc j) y h = elim (set_case xs i x j y h) [ inl e ↦ inl (ap suc e.0, e.1) | inr e ↦ inr ((λ same. e.0 (omega (arith, same))), e.1) ]

  pub set_here : (xs : List A) (i : ℕ) (x y : A) → slice_get xs i ≡ Some y → slice_get (slice_set xs i x) i ≡ Some x
  set_here [] i x y h = absurd cc
  set_here (z ∷ xs) zero x y h = refl
  set_here (z ∷ xs) (suc i) x y h = set_here xs i x y h

  pub set_there : (xs : List A) (i j : ℕ) (x : A) → j ≢ i → slice_get (slice_set xs i x) j ≡ slice_get xs j
  set_there [] i j x h = refl
  set_there (z ∷ xs) zero zero x h = absurd (h refl)
  set_there (z ∷ xs) zero (suc j) x h = refl
  set_there (z ∷ xs) (suc i) zero x h = refl
  set_there (z ∷ xs) (suc i) (suc j) x h = set_there xs i j x (λ e. h (ap suc e))

  pub taken : (n : ℕ) (xs : List A) (i : ℕ) (y : A) → slice_get (take n xs) i ≡ Some y → (i < n) × (slice_get xs i ≡ Some y)
  taken zero xs i y h = absurd cc
  taken (suc n) [] i y h = absurd cc
  taken (suc n) (z ∷ xs) zero y h = (omega arith, h)
  taken (suc n) (z ∷ xs) (suc i) y h = let e = taken n xs i y h in let lt = e.0 in (omega (arith, lt), e.1)

  pub take_has : (n : ℕ) (xs : List A) (i : ℕ) (y : A) → i < n → slice_get xs i ≡ Some y → slice_get (take n xs) i ≡ Some y
  take_has zero xs i y lt h = absurd (omega (arith, lt))
  take_has (suc n) [] i y lt h = absurd cc
  take_has (suc n) (z ∷ xs) zero y lt h = h
  take_has (suc n) (z ∷ xs) (suc i) y lt h = take_has n xs i y (omega (arith, lt)) h

  pub dropped : (n : ℕ) (xs : List A) (i : ℕ) (y : A) → slice_get (drop n xs) i ≡ Some y → slice_get xs (n + i) ≡ Some y
  dropped zero xs i y h = let e : 0 + i ≡ i = omega arith in rw e h
  dropped (suc n) [] i y h = absurd cc
  dropped (suc n) (z ∷ xs) i y h = let e : suc n + i ≡ suc (n + i) = omega arith in rw e (dropped n xs i y h)

  pub drop_has : (n : ℕ) (xs : List A) (i : ℕ) (y : A) → slice_get xs (n + i) ≡ Some y → slice_get (drop n xs) i ≡ Some y
  drop_has zero xs i y h = let e : 0 + i ≡ i = omega arith in rw e at h
  drop_has (suc n) [] i y h = absurd cc
  drop_has (suc n) (z ∷ xs) i y h = let e : suc n + i ≡ suc (n + i) = omega arith in drop_has n xs i y (rw e at h)

-- the item at a place is one
pub one_item : {A : Type 0} (xs : List A) (i : ℕ) (x y : A) → slice_get xs i ≡ Some x → slice_get xs i ≡ Some y → x ≡ y
one_item xs i x y h k = let e : Some x ≡ Some y = sym h ∙ k in cc

-- a class counts for what it is now
pub sum_set : (f : Standing → ℕ) (xs : List Standing) (i : ℕ) (x y : Standing) → slice_get xs i ≡ Some y → summed f (slice_set xs i x) + f y ≡ summed f xs + f x
sum_set f [] i x y h = absurd cc
sum_set f (z ∷ xs) zero x y h = let e : z ≡ y = cc in let q : f z ≡ f y = ap f e in omega (arith, q)
sum_set f (z ∷ xs) (suc i) x y h = let rest = sum_set f xs i x y h in omega (arith, rest)

-- what stands in the sum
pub sum_has : (f : Standing → ℕ) (xs : List Standing) (i : ℕ) (x : Standing) → slice_get xs i ≡ Some x → f x ≤ summed f xs
sum_has f [] i x h = absurd cc
sum_has f (z ∷ xs) zero x h = let e : z ≡ x = cc in let q : f z ≡ f x = ap f e in omega (arith, q)
sum_has f (z ∷ xs) (suc i) x h = let rest = sum_has f xs i x h in omega (arith, rest)

pub sum_same : (f : Standing → ℕ) (x : Standing) (n : ℕ) → f x ≡ 1 → summed f (replicate n x) ≡ n
sum_same f x zero one = refl
sum_same f x (suc n) one = let rest = sum_same f x n one in omega (arith, rest, one)

-- each item of a list of equal ones
pub all_equal : {A : Type 0} (n : ℕ) (x : A) (i : ℕ) (y : A) → slice_get (replicate n x) i ≡ Some y → x ≡ y
all_equal zero x i y h = absurd cc
all_equal (suc n) x zero y h = cc
all_equal (suc n) x (suc i) y h = all_equal n x i y h

pub equal_long : {A : Type 0} (n : ℕ) (x : A) → length (replicate n x) ≡ n
equal_long zero x = refl
equal_long (suc n) x = ap suc (equal_long n x)

pub stands_more : (ns ms : List ℕ) (n : ℕ) → Stands ns n → Stands (ns ++ ms) n
stands_more ns ms n h = record { place = h.place; there = more ns ms h.place n h.there }

pub stands_last : (ns : List ℕ) (n : ℕ) → Stands (ns ++ n ∷ []) n
stands_last ns n = record { place = length ns; there = at_last ns n }

pub stands_case : (ns : List ℕ) (n m : ℕ) → Stands (ns ++ n ∷ []) m → Stands ns m ⊎ (m ≡ n)
stands_case ns n m h = elim (last_case ns n h.place m h.there) [ inl e ↦ inl (record { place = h.place; there = e }) | inr e ↦ inr e.1 ]

pub stands_taken : (k : ℕ) (ns : List ℕ) (n : ℕ) → Stands (take k ns) n → Stands ns n
stands_taken k ns n h = record { place = h.place; there = (taken k ns h.place n h.there).1 }
