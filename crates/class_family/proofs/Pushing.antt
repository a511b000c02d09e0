-- Supers are entered before all else from the last one on.
use Rattle.std.proofs.Common.{◌≡◌, ◌∙◌, sym, refl, ap, subst, ◌⊎◌, inl, inr, ℕ, zero, suc, ◌+◌, ◌-◌, ◌<◌, ◌≤◌, List, [], ◌∷◌, ◌++◌, length, take, drop, Option, None, Some, slice_get, arith, append_assoc}
use Rattle.class_family.specs.declared.tasks.Task.{Task}
use Rattle.class_family.specs.declared.tasks.Task.TheVariants.{Enter}
use Rattle.class_family.specs.Walks.{enters_of}

pub append_nil : {A : Type 0} (xs : List A) → xs ++ [] ≡ xs
append_nil [] = refl
append_nil (x ∷ xs) = ap (λ l. x ∷ l) (append_nil xs)

pub taken_some : (xs : List ℕ) (i x : ℕ) → slice_get xs i ≡ Some x → take 1 (drop i xs) ≡ x ∷ []
taken_some [] i x h = absurd cc
taken_some (y ∷ xs) zero x h = let e : y ≡ x = cc in ap (λ z. z ∷ []) e
taken_some (y ∷ xs) (suc i) x h = taken_some xs i x h

pub taken_none : (xs : List ℕ) (i : ℕ) → slice_get xs i ≡ None → take 1 (drop i xs) ≡ []
taken_none [] zero h = refl
taken_none [] (suc i) h = refl
taken_none (y ∷ xs) zero h = absurd cc
taken_none (y ∷ xs) (suc i) h = taken_none xs i h

pub enters_both : (xs ys : List ℕ) → enters_of (xs ++ ys) ≡ enters_of ys ++ enters_of xs
enters_both [] ys = sym (append_nil (enters_of ys))
enters_both (x ∷ xs) ys = ap (λ l. l ++ Enter x ∷ []) (enters_both xs ys) ∙ append_assoc (enters_of ys) (enters_of xs) (Enter x ∷ [])

parted : (xs : List ℕ) (i : ℕ) → drop i xs ≡ take 1 (drop i xs) ++ drop (suc i) xs
parted [] zero = refl
parted [] (suc i) = refl
parted (x ∷ xs) zero = refl
parted (x ∷ xs) (suc i) = parted xs i

dropped_past : (xs : List ℕ) (i : ℕ) → length xs ≤ i → drop i xs ≡ []
dropped_past [] zero h = refl
dropped_past [] (suc i) h = refl
dropped_past (x ∷ xs) zero h = absurd (omega (arith, h))
dropped_past (x ∷ xs) (suc i) h = dropped_past xs i (omega (arith, h))

pub pushes_start : (ts : List Task) (xs : List ℕ) → ts ≡ ts ++ enters_of (drop (length xs) xs)
pushes_start ts xs = sym (append_nil ts) ∙ ap (λ l. ts ++ enters_of l) (sym (dropped_past xs (length xs) (omega arith)))

pub pushes_next : (ts old new : List Task) (xs : List ℕ) (left : ℕ) → 0 < left → old ≡ ts ++ enters_of (drop left xs) → new ≡ old ++ enters_of (take 1 (drop (left - 1) xs)) → new ≡ ts ++ enters_of (drop (left - 1) xs)
pushes_next ts old new xs zero some before push = absurd (omega (arith, some))
pushes_next ts old new xs (suc i) some before push =
    let e : suc i - 1 ≡ i = omega arith in
    push ∙ ap (λ l. l ++ enters_of (take 1 (drop (suc i - 1) xs))) before ∙ append_assoc ts (enters_of (drop (suc i) xs)) (enters_of (take 1 (drop (suc i - 1) xs)))
    ∙ ap (λ k. ts ++ (enters_of (drop (suc i) xs) ++ enters_of (take 1 (drop k xs)))) e
    ∙ ap (λ l. ts ++ l) (sym (enters_both (take 1 (drop i xs)) (drop (suc i) xs)) ∙ ap enters_of (sym (parted xs i))) ∙ ap (λ k. ts ++ enters_of (drop k xs)) (sym e)

ended : (xs : List ℕ) (left from : ℕ) → left ≤ from → (length xs ≤ left) ⊎ (from ≤ left) → drop left xs ≡ drop from xs
ended xs left from le h = elim h [
  | inl short ↦ dropped_past xs left short ∙ sym (dropped_past xs from (omega (arith, le, short)))
  | inr ge ↦ ap (λ k. drop k xs) (omega (arith, le, ge))
]

pub pushes_end : (ts new : List Task) (xs : List ℕ) (left from : ℕ) → left ≤ from → (length xs ≤ left) ⊎ (from ≤ left) → new ≡ ts ++ enters_of (drop left xs) → new ≡ ts ++ enters_of (drop from xs)
pushes_end ts new xs left from le h e = e ∙ ap (λ l. ts ++ enters_of l) (ended xs left from le h)
