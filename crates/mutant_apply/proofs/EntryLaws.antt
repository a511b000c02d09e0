-- Where equal entries stand in a pool with others behind it.
use Rattle.std.proofs.Common.{◌≡◌, ℕ, zero, suc, ◌+◌, ◌≤◌, ◌<◌, Bool, true, false, cond, List, [], ◌∷◌, ◌++◌, length, Option, Some, None, refl, sym, ap, ◌∙◌, arith}
use Rattle.std.specs.List.{position_from}
use Rattle.class_model.specs.declared.constant.Const.{Const}

module _ (t : Const → Bool) where
  front_case : (k i : ℕ) (o o' : Option ℕ) (b : Bool) → (o ≡ Some i → o' ≡ Some i) → cond b (Some k) o ≡ Some i → cond b (Some k) o' ≡ Some i
  front_case k i o o' true h e = e
  front_case k i o o' false h e = h e

  pub found_in_front : (k : ℕ) (xs ys : List Const) (i : ℕ) → position_from t k xs ≡ Some i → position_from t k (xs ++ ys) ≡ Some i
  found_in_front k [] ys i e = absurd cc
  found_in_front k (x ∷ xs) ys i e = front_case k i (position_from t (k + 1) xs) (position_from t (k + 1) (xs ++ ys)) (t x) (found_in_front (k + 1) xs ys i) e

  behind_case : (k : ℕ) (o o' p : Option ℕ) (b : Bool) → (o ≡ None → o' ≡ p) → cond b (Some k) o ≡ None → cond b (Some k) o' ≡ p
  behind_case k o o' p true h e = absurd cc
  behind_case k o o' p false h e = h e

  pub found_behind : (k : ℕ) (xs ys : List Const) → position_from t k xs ≡ None → position_from t k (xs ++ ys) ≡ position_from t (length xs + k) ys
  found_behind k [] ys e = let same : k ≡ 0 + k = omega arith in ap (λ (n : ℕ). position_from t n ys) same
  found_behind k (x ∷ xs) ys e =
      let same : length xs + (k + 1) ≡ suc (length xs) + k = omega arith in
      behind_case k (position_from t (k + 1) xs) (position_from t (k + 1) (xs ++ ys)) (position_from t (suc (length xs) + k) ys) (t x)
      (λ h. found_behind (k + 1) xs ys h ∙ ap (λ (n : ℕ). position_from t n ys) same) e

  bound_case : (k n i : ℕ) (o : Option ℕ) (b : Bool) → (o ≡ Some i → i < k + 1 + n) → cond b (Some k) o ≡ Some i → i < k + suc n
  bound_case k n i o true h e = let same : k ≡ i = cc in omega arith
  bound_case k n i o false h e = omega (arith, h e)

  pub found_within : (k : ℕ) (xs : List Const) (i : ℕ) → position_from t k xs ≡ Some i → i < k + length xs
  found_within k [] i e = absurd cc
  found_within k (x ∷ xs) i e = bound_case k (length xs) i (position_from t (k + 1) xs) (t x) (found_within (k + 1) xs i) e
