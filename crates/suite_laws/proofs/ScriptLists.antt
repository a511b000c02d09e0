-- What is so of each item of lists that are joined, reversed and chosen from.
use Rattle.std.proofs.Common.{◌≡◌, refl, sym, subst, ℕ, suc, Bool, true, false, List, [], ◌∷◌, ◌++◌, Some}
use Rattle.std.specs.Prelude.{◌||◌, reverse, slice_get}
use Rattle.std.specs.List.{list_any, flat_map, AllByRecursion}
use Rattle.std.proofs.lemmas.List.{reverse-append, reverse-reverse}

module _ {X : Type 0} (P : X → Type 0) where
  pub all_append : (xs ys : List X) → AllByRecursion P xs → AllByRecursion P ys → AllByRecursion P (xs ++ ys)
  all_append [] ys h k = k
  all_append (x ∷ xs) ys h k = (h.0, all_append xs ys h.1 k)

  pub all_first : (xs ys : List X) → AllByRecursion P (xs ++ ys) → AllByRecursion P xs
  all_first [] ys h = tt
  all_first (x ∷ xs) ys h = (h.0, all_first xs ys h.1)

  pub all_second : (xs ys : List X) → AllByRecursion P (xs ++ ys) → AllByRecursion P ys
  all_second [] ys h = h
  all_second (x ∷ xs) ys h = all_second xs ys h.1

  pub all_reversed : (xs : List X) → AllByRecursion P xs → AllByRecursion P (reverse xs)
  all_reversed [] h = tt
  all_reversed (x ∷ xs) h = subst (AllByRecursion P) (sym (reverse-append (x ∷ []) xs)) (all_append (reverse xs) (x ∷ []) (all_reversed xs h.1) (h.0, tt))

  pub all_unreversed : (xs : List X) → AllByRecursion P (reverse xs) → AllByRecursion P xs
  all_unreversed xs h = subst (AllByRecursion P) (reverse-reverse xs) (all_reversed (reverse xs) h)

  pub all_each : (xs : List X) → ((k : ℕ) (x : X) → slice_get xs k ≡ Some x → P x) → AllByRecursion P xs
  all_each [] h = tt
  all_each (x ∷ xs) h = (h 0 x refl, all_each xs (λ k. h (suc k)))

module _ {X Y : Type 0} (f : X → List Y) (P : Y → Type 0) where
  pub all_flat : (xs : List X) → AllByRecursion (λ x. AllByRecursion P (f x)) xs → AllByRecursion P (flat_map f xs)
  all_flat [] h = tt
  all_flat (x ∷ xs) h = all_append P (f x) (flat_map f xs) h.0 (all_flat xs h.1)

  pub all_unflat : (xs : List X) → AllByRecursion P (flat_map f xs) → AllByRecursion (λ x. AllByRecursion P (f x)) xs
  all_unflat [] h = tt
  all_unflat (x ∷ xs) h = (all_first P (f x) (flat_map f xs) h, all_unflat xs (all_second P (f x) (flat_map f xs) h))

module _ {X : Type 0} (P Q : X → Type 0) where
  pub all_more : ((x : X) → P x → Q x) → (xs : List X) → AllByRecursion P xs → AllByRecursion Q xs
  all_more go [] h = tt
  all_more go (x ∷ xs) h = (go x h.0, all_more go xs h.1)

module _ {X : Type 0} (P Q R : X → Type 0) where
  pub all_both : ((x : X) → P x → Q x → R x) → (xs : List X) → AllByRecursion P xs → AllByRecursion Q xs → AllByRecursion R xs
  all_both go [] h k = tt
  all_both go (x ∷ xs) h k = (go x h.0 k.0, all_both go xs h.1 k.1)

-- ---- the item that passes a test

pub record Passing {X : Type 0} (test : X → Bool) (xs : List X) : Type 0 where
  pub place : ℕ
  pub item : X
  pub there : slice_get xs place ≡ Some item
  pub passes : test item ≡ true

passing_behind : {X : Type 0} (test : X → Bool) (x : X) (xs : List X) → Passing test xs → Passing test (x ∷ xs)
passing_behind test x xs r = record { place = suc r.place; item = r.item; there = r.there; passes = r.passes }

passing_case : {X : Type 0} (test : X → Bool) (x : X) (xs : List X) (b : Bool) → test x ≡ b → (list_any test xs ≡ true → Passing test xs) → (b || list_any test xs) ≡ true → Passing test (x ∷ xs)
passing_case test x xs true t rest h = record { place = 0; item = x; there = refl; passes = t }
passing_case test x xs false t rest h = passing_behind test x xs (rest h)

pub any_passing : {X : Type 0} (test : X → Bool) (xs : List X) → list_any test xs ≡ true → Passing test xs
any_passing test [] e = absurd cc
any_passing test (x ∷ xs) e = passing_case test x xs (test x) refl (any_passing test xs) e
