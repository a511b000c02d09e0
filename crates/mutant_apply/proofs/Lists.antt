-- Lists by recursion: what holds of each item, of some first items, and with one item changed.
use Rattle.std.proofs.Common.{◌≡◌, ℕ, zero, suc, ◌+◌, List, [], ◌∷◌, ◌++◌, length, map, take, drop, Some, None, refl, ap, subst, arith}
use Rattle.std.specs.Prelude.{slice_get, slice_set}
use Rattle.std.specs.List.{AllByRecursion}
use Rattle.mutant_apply.specs.Edited.{changed_at}

pub all_map : {X Y : Type 0} (P : X → Type 0) (Q : Y → Type 0) (f : X → Y) → ((x : X) → P x → Q (f x)) → (xs : List X) → AllByRecursion P xs → AllByRecursion Q (map f xs)
all_map P Q f h [] q = tt
all_map P Q f h (x ∷ xs) q = (h x q.0, all_map P Q f h xs q.1)

pub all_append : {X : Type 0} (P : X → Type 0) (xs ys : List X) → AllByRecursion P xs → AllByRecursion P ys → AllByRecursion P (xs ++ ys)
all_append P [] ys q r = r
all_append P (x ∷ xs) ys q r = (q.0, all_append P xs ys q.1 r)

pub all_take : {X : Type 0} (P : X → Type 0) (n : ℕ) (xs : List X) → AllByRecursion P xs → AllByRecursion P (take n xs)
all_take P zero xs q = tt
all_take P (suc n) [] q = tt
all_take P (suc n) (x ∷ xs) q = (q.0, all_take P n xs q.1)

pub all_drop : {X : Type 0} (P : X → Type 0) (n : ℕ) (xs : List X) → AllByRecursion P xs → AllByRecursion P (drop n xs)
all_drop P zero xs q = q
all_drop P (suc n) [] q = tt
all_drop P (suc n) (x ∷ xs) q = all_drop P n xs q.1

-- what holds of each item holds of the one at a place
pub all_at : {X : Type 0} (P : X → Type 0) (xs : List X) (at : ℕ) (x : X) → AllByRecursion P xs → slice_get xs at ≡ Some x → P x
all_at P [] at x all e = absurd cc
all_at P (y ∷ xs) zero x all e = let same : y ≡ x = cc in subst P same all.0
all_at P (y ∷ xs) (suc at) x all e = all_at P xs at x all.1 e

module _ {X : Type 0} (change : X → X) where
  pub changed_set : (xs : List X) (at : ℕ) (x : X) → slice_get xs at ≡ Some x → slice_set xs at (change x) ≡ changed_at at change xs
  changed_set [] at x e = absurd cc
  changed_set (y ∷ xs) zero x e = cc
  changed_set (y ∷ xs) (suc at) x e = ap (λ ys. y ∷ ys) (changed_set xs at x e)

  pub changed_none : (xs : List X) (at : ℕ) → slice_get xs at ≡ None → changed_at at change xs ≡ xs
  changed_none [] at e = refl
  changed_none (y ∷ xs) zero e = absurd cc
  changed_none (y ∷ xs) (suc at) e = ap (λ ys. y ∷ ys) (changed_none xs at e)

  pub changed_all : (P : X → Type 0) (xs : List X) (at : ℕ) → AllByRecursion P xs → ((x : X) → slice_get xs at ≡ Some x → P (change x)) → AllByRecursion P (changed_at at change xs)
  changed_all P [] at all new = tt
  changed_all P (y ∷ xs) zero all new = (new y refl, all.1)
  changed_all P (y ∷ xs) (suc at) all new = (all.0, changed_all P xs at all.1 new)
