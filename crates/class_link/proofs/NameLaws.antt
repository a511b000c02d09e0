-- Texts without their last unit.
use Rattle.std.proofs.Common.{◌≡◌, ◌∙◌, sym, ap, refl, arith, ℕ, suc, ◌-◌, List, [], ◌∷◌, length, take}
use Rattle.program_rules.specs.Names.{without_last}

pub without_last_take : (xs : List ℕ) → without_last xs ≡ take (length xs - 1) xs
without_last_take [] = refl
without_last_take (c ∷ []) = refl
without_last_take (c ∷ d ∷ cs) =
    let e : length (c ∷ d ∷ cs) - 1 ≡ suc (length (d ∷ cs) - 1) = omega arith in
    ap (λ xs. c ∷ xs) (without_last_take (d ∷ cs)) ∙ sym (ap (λ n. take n (c ∷ d ∷ cs)) e)
