-- What is gathered of a list place by place, from the first to the last, is that list where it
-- stands in the order of the places.
use Rattle.std.proofs.Common.{◌≡◌, ◌≢◌, ◌∙◌, refl, sym, ap, subst, ◌⊎◌, inl, inr, ℕ, ◌+◌, ◌<◌, ◌≤◌, Bool, true, false, cond, List, [], ◌∷◌, ◌++◌, length, filter, arith}
use Rattle.std.specs.Prelude.{◌==◌}
use Rattle.std.proofs.lemmas.Bool.{ne_eqb, eq-eqb}
use Rattle.std.proofs.lemmas.Bool.Decides.{eqb_tells}

-- In the order of their places, each below this total.
abbrev pub Ascend : {A : Type 0} → (A → ℕ) → ℕ → ℕ → List A → Type 0
Ascend key total least [] = Unit {0}
Ascend key total least (x ∷ xs) = (least ≤ key x) × (key x < total) × Ascend key total (key x) xs

module _ {A : Type 0} (key : A → ℕ) where
  -- those of one place
  abbrev pub here : ℕ → List A → List A
  here n xs = filter (λ x. key x == n) xs

  pub taken : (n : ℕ) (x : A) (xs : List A) → key x ≡ n → here n (x ∷ xs) ≡ x ∷ here n xs
  taken n x xs e = ap (λ (b : Bool). cond b (x ∷ here n xs) (here n xs)) (eq-eqb (key x) n e)

  pub passed : (n : ℕ) (x : A) (xs : List A) → key x ≢ n → here n (x ∷ xs) ≡ here n xs
  passed n x xs e = ap (λ (b : Bool). cond b (x ∷ here n xs) (here n xs)) (ne_eqb (key x) n e)

  pub none_here : (total n least : ℕ) (xs : List A) → n < least → Ascend key total least xs → here n xs ≡ []
  none_here total n least [] lt a = refl
  none_here total n least (x ∷ xs) lt a = let le = a.0 in passed n x xs (λ e. omega (arith, e, lt, le)) ∙ none_here total n (key x) xs (omega (arith, lt, le)) a.2

  -- Each of these is of that place.
  abbrev pub AreAt : ℕ → List A → Type 0
  AreAt n [] = Unit {0}
  AreAt n (x ∷ xs) = (key x ≡ n) × AreAt n xs

  pub are_here : (n : ℕ) (xs : List A) → AreAt n (here n xs)
  are_here n [] = tt
  are_here n (x ∷ xs) = by (are_here n xs) (eqb_tells (key x) n)
    where
      by : AreAt n (here n xs) → (((key x == n) ≡ true) × (key x ≡ n)) ⊎ (((key x == n) ≡ false) × (key x ≢ n)) → AreAt n (here n (x ∷ xs))
      by rest (inl e) = subst (AreAt n) (sym (taken n x xs e.1)) (e.1, rest)
      by rest (inr e) = subst (AreAt n) (sym (passed n x xs e.1)) rest

  module _ {B : Type 0} where
    -- those of the places from one on, a place for each item of a list
    abbrev pub gathered : ℕ → List B → List A → List A
    gathered n [] xs = []
    gathered n (b ∷ bs) xs = here n xs ++ gathered (n + 1) bs xs

    -- one of an earlier place
    behind : (n : ℕ) (bs : List B) (x : A) (xs : List A) → key x < n → gathered n bs (x ∷ xs) ≡ gathered n bs xs
    behind n [] x xs lt = refl
    behind n (b ∷ bs) x xs lt =
        ap (λ (ys : List A). ys ++ gathered (n + 1) bs (x ∷ xs)) (passed n x xs (λ e. omega (arith, e, lt)))
        ∙ ap (λ (ys : List A). here n xs ++ ys) (behind (n + 1) bs x xs (omega (arith, lt)))

    -- the first one
    first : (total n : ℕ) (bs : List B) (x : A) (xs : List A) → n ≤ key x → key x < n + length bs → Ascend key total (key x) xs → gathered n bs (x ∷ xs) ≡ x ∷ gathered n bs xs
    first total n [] x xs le lt a = absurd (omega (arith, le, lt))
    first total n (b ∷ bs) x xs le lt a = by (λ next. first total (n + 1) bs x xs next (omega (arith, lt)) a) (eqb_tells (key x) n)
      where
        later : key x ≢ n → n + 1 ≤ key x
        later ne = omega (arith, le, ne)

        by : (n + 1 ≤ key x → gathered (n + 1) bs (x ∷ xs) ≡ x ∷ gathered (n + 1) bs xs) → (((key x == n) ≡ true) × (key x ≡ n)) ⊎ (((key x == n) ≡ false) × (key x ≢ n)) → gathered n (b ∷ bs) (x ∷ xs) ≡ x ∷ gathered n (b ∷ bs) xs
        by rest (inl e) =
            let at = e.1 in
            ap (λ (ys : List A). ys ++ gathered (n + 1) bs (x ∷ xs)) (taken n x xs e.1)
            ∙ ap (λ (ys : List A). (x ∷ here n xs) ++ ys) (behind (n + 1) bs x xs (omega (arith, at)))
        by rest (inr e) =
            let next = later e.1 in
            let none = none_here total n (key x) xs (omega (arith, next)) a in
            ap (λ (ys : List A). ys ++ gathered (n + 1) bs (x ∷ xs)) (passed n x xs e.1 ∙ none)
            ∙ rest next
            ∙ ap (λ (ys : List A). x ∷ (ys ++ gathered (n + 1) bs xs)) (sym none)

    nothing : (n : ℕ) (bs : List B) → gathered n bs [] ≡ []
    nothing n [] = refl
    nothing n (b ∷ bs) = nothing (n + 1) bs

    pub whole : (total n least : ℕ) (bs : List B) (xs : List A) → n ≤ least → total ≡ n + length bs → Ascend key total least xs → gathered n bs xs ≡ xs
    whole total n least bs [] le all a = nothing n bs
    whole total n least bs (x ∷ xs) le all a =
        let low = a.0 in
        let high = a.1 in
        first total n bs x xs (omega (arith, le, low)) (omega (arith, high, all)) a.2 ∙ ap (λ (ys : List A). x ∷ ys) (whole total n (key x) bs xs (omega (arith, le, low)) all a.2)
