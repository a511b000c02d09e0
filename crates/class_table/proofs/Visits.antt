-- Visits are put before all else from the last one on.
use Rattle.std.proofs.Common.{◌≡◌, ◌∙◌, sym, refl, ap, subst, ℕ, zero, suc, ◌-◌, ◌<◌, ◌≤◌, List, [], ◌∷◌, ◌++◌, length, drop, Some, slice_get, arith, append_assoc}
use Rattle.class_table.specs.declared.tasks.Task.{Task}
use Rattle.class_table.specs.declared.tasks.Task.TheVariants.{Visit}
use Rattle.class_table.specs.Walked.{visits_of}

append_nil : (xs : List Task) → xs ++ [] ≡ xs
append_nil [] = refl
append_nil (x ∷ xs) = ap (λ l. x ∷ l) (append_nil xs)

dropped_all : (xs : List ℕ) → drop (length xs) xs ≡ []
dropped_all [] = refl
dropped_all (x ∷ xs) = dropped_all xs

dropped_one : (xs : List ℕ) (i x : ℕ) → slice_get xs i ≡ Some x → drop i xs ≡ x ∷ drop (suc i) xs
dropped_one [] i x h = absurd cc
dropped_one (y ∷ xs) zero x h = let e : y ≡ x = cc in ap (λ z. z ∷ xs) e
dropped_one (y ∷ xs) (suc i) x h = dropped_one xs i x h

pub visits_start : (ts : List Task) (xs : List ℕ) → ts ≡ ts ++ visits_of (drop (length xs) xs)
visits_start ts xs = sym (append_nil ts) ∙ ap (λ l. ts ++ visits_of l) (sym (dropped_all xs))

pub visits_next : (ts old new : List Task) (xs : List ℕ) (left x : ℕ) → 0 < left → slice_get xs (left - 1) ≡ Some x → old ≡ ts ++ visits_of (drop left xs) → new ≡ old ++ Visit x ∷ [] → new ≡ ts ++ visits_of (drop (left - 1) xs)
visits_next ts old new xs zero x some there before push = absurd (omega (arith, some))
visits_next ts old new xs (suc i) x some there before push =
    let e : suc i - 1 ≡ i = omega arith in
    let one = dropped_one xs i x (subst (λ k. slice_get xs k ≡ Some x) e there) in
    push ∙ ap (λ l. l ++ Visit x ∷ []) before ∙ append_assoc ts (visits_of (drop (suc i) xs)) (Visit x ∷ [])
    ∙ ap (λ l. ts ++ visits_of l) (sym one) ∙ ap (λ k. ts ++ visits_of (drop k xs)) (sym e)

pub visits_end : (ts new : List Task) (xs : List ℕ) (left : ℕ) → left ≤ 0 → new ≡ ts ++ visits_of (drop left xs) → new ≡ ts ++ visits_of xs
visits_end ts new xs zero le h = h
visits_end ts new xs (suc i) le h = absurd (omega (arith, le))
