-- The first of the rest of a list.
use Rattle.std.proofs.Common.{◌≡◌, ◌∙◌, ℕ, zero, suc, List, [], ◌∷◌, drop, Option, None, Some, slice_get, Bor, refl, sym, subst}
use Rattle.std.specs.Prelude.{IfNone, IfSome}
use Rattle.std.specs.Option.{option_copied}

pub first_at : {A : Type 0} (xs : List A) (n : ℕ) → slice_get (drop n xs) 0 ≡ slice_get xs n
first_at xs zero = refl
first_at [] (suc n) = refl
first_at (x ∷ xs) (suc n) = first_at xs n

pub rest_at :
    {A : Type 0} (xs : List A) (n : ℕ) →
    IfSome (slice_get xs n) (λ x. drop n xs ≡ x ∷ drop (suc n) xs)
rest_at [] zero = tt
rest_at (x ∷ xs) zero = refl
rest_at [] (suc n) = tt
rest_at (x ∷ xs) (suc n) = rest_at xs n

no_rest : {A : Type 0} (xs : List A) (n : ℕ) → slice_get xs n ≡ None → drop n xs ≡ []
no_rest [] zero e = refl
no_rest (x ∷ xs) zero e = absurd (subst (λ o. IfSome o (λ y. ⊥)) (sym e) tt)
no_rest [] (suc n) e = refl
no_rest (x ∷ xs) (suc n) e = no_rest xs n e

pub none_left :
    {A : Type 0} (o : Option (Bor A)) (xs rest : List A) (n : ℕ) →
    option_copied o ≡ slice_get xs n → drop n xs ≡ rest → IfNone o (rest ≡ [])
none_left None xs rest n e r = sym r ∙ no_rest xs n (sym e)
none_left (Some x) xs rest n e r = tt
