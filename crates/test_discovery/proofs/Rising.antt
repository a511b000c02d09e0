-- One more superclass.
use Rattle.std.proofs.Common.{◌≡◌, ◌∙◌, sym, ap, refl, arith, ℕ, suc, ◌+◌, ◌-◌, ◌<◌, List, [], ◌∷◌, ◌++◌, map, Option, Some}
use Rattle.std.specs.Prelude.{option_and_then}
use Rattle.std.proofs.lemmas.List.{map-append, append_assoc}
use Rattle.class_model.specs.declared.class.Class.{Class}
use Rattle.test_discovery.specs.Listed.{Files, superclass_of, rising_from}

pub rising_next : (n t : ℕ) (files : Files) (c : Class) → t < n → rising_from (n - t) files (Some c) ≡ c ∷ rising_from (n - (t + 1)) files (option_and_then files (superclass_of c))
rising_next n t files c lt = let e : n - t ≡ suc (n - (t + 1)) = omega (arith, lt) in rw e refl

pub rising_step : {A : Type 0} (see : A → Class) (files : Files) (n t : ℕ) (xs ys : List A) (x : A) (next above : Option Class) (w : List Class) → t < n → ys ≡ xs ++ x ∷ [] → next ≡ Some (see x) → above ≡ option_and_then files (superclass_of (see x)) → map see xs ++ rising_from (n - t) files next ≡ w → map see ys ++ rising_from (n - (t + 1)) files above ≡ w
rising_step see files n t xs ys x next above w lt ys_is next_is above_is h =
    ap (λ zs. map see zs ++ rising_from (n - (t + 1)) files above) ys_is
    ∙ ap (λ a. map see (xs ++ x ∷ []) ++ rising_from (n - (t + 1)) files a) above_is
    ∙ ap (λ l. l ++ rising_from (n - (t + 1)) files (option_and_then files (superclass_of (see x)))) (map-append see xs (x ∷ []))
    ∙ append_assoc (map see xs) (see x ∷ []) (rising_from (n - (t + 1)) files (option_and_then files (superclass_of (see x))))
    ∙ ap (λ r. map see xs ++ r) (sym (rising_next n t files (see x) lt))
    ∙ ap (λ o. map see xs ++ rising_from (n - t) files o) (sym next_is)
    ∙ h
