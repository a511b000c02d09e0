-- The first place in a list that one more item ends.
use Rattle.std.proofs.Common.{◌≡◌, ◌∙◌, sym, refl, ap, ℕ, suc, ◌+◌, Bool, true, false, List, [], ◌∷◌, ◌++◌, length, Option, Some, None, arith}
use Rattle.std.specs.Prelude.{position, cond}
use Rattle.std.specs.List.{position_from}
use Rattle.std.proofs.lemmas.Iterator.Adapters.{position_from-zero}

-- a place, or else one behind it
abbrev pub or_behind : Option ℕ → Option ℕ → Option ℕ
or_behind None behind = behind
or_behind (Some place) behind = Some place

pub none_behind : (o : Option ℕ) → o ≡ or_behind o None
none_behind None = refl
none_behind (Some place) = refl

pushed_case : (b : Bool) (i : ℕ) (rest behind : Option ℕ) → cond b (Some i) (or_behind rest behind) ≡ or_behind (cond b (Some i) rest) behind
pushed_case true i rest behind = refl
pushed_case false i rest behind = refl

module _ {X : Type 0} (p : X → Bool) where
  pushed_from : (i : ℕ) (xs : List X) (y : X) → position_from p i (xs ++ y ∷ []) ≡ or_behind (position_from p i xs) (cond (p y) (Some (i + length xs)) None)
  pushed_from i [] y = let e : i ≡ i + 0 = omega arith in ap (λ k. cond (p y) (Some k) None) e
  pushed_from i (x ∷ xs) y =
      let e : (i + 1) + length xs ≡ i + suc (length xs) = omega arith in
      ap (cond (p x) (Some i)) (pushed_from (i + 1) xs y ∙ ap (λ k. or_behind (position_from p (i + 1) xs) (cond (p y) (Some k) None)) e)
      ∙ pushed_case (p x) i (position_from p (i + 1) xs) (cond (p y) (Some (i + suc (length xs))) None)

  pub pushed : (xs : List X) (y : X) → position p (xs ++ y ∷ []) ≡ or_behind (position p xs) (cond (p y) (Some (length xs)) None)
  pushed xs y =
      let e : 0 + length xs ≡ length xs = omega arith in
      position_from-zero p (xs ++ y ∷ [])
      ∙ pushed_from 0 xs y
      ∙ ap (λ k. or_behind (position_from p 0 xs) (cond (p y) (Some k) None)) e
      ∙ ap (λ k. or_behind k (cond (p y) (Some (length xs)) None)) (sym (position_from-zero p xs))
