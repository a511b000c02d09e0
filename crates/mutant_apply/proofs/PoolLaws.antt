-- Entries behind those of a pool change nothing of what its indices name.
use Rattle.std.proofs.Common.{◌≡◌, ◌∙◌, sym, refl, ap, subst, ℕ, zero, suc, ◌-◌, ◌<◌, ◌≤◌, Bool, true, false, List, [], ◌∷◌, ◌++◌, length, Option, None, Some, arith}
use Rattle.std.specs.Prelude.{◌≢◌, ◌==◌, slice_get, IsSome, IsSomeAnd, if◌then◌else◌, option_and_then}
use Rattle.class_model.specs.Pool.{entry_of, text_in, class_in, pair_in, text_of, class_name_of, pair_name_of, pair_desc_of}
use Rattle.class_model.specs.declared.constant.Const.{Const}

pub front_kept : {A : Type 0} (xs ys : List A) (k : ℕ) (x : A) → slice_get xs k ≡ Some x → slice_get (xs ++ ys) k ≡ Some x
front_kept [] ys k x e = absurd cc
front_kept (y ∷ xs) ys zero x e = e
front_kept (y ∷ xs) ys (suc k) x e = front_kept xs ys k x e

pub some_of : {A : Type 0} (P : A → Type 0) (o : Option A) → IsSomeAnd o P → IsSome o
some_of P None h = absurd h
some_of P (Some x) h = refl

pub some_is : {A : Type 0} (o : Option A) (x : A) → o ≡ Some x → IsSome o
some_is None x e = absurd cc
some_is (Some y) x e = refl

module _ (pool more : List Const) where
  place_case : (b : Bool) (k : ℕ) (c : Const) → (if b then None else slice_get pool k) ≡ Some c → (if b then None else slice_get (pool ++ more) k) ≡ Some c
  place_case true k c e = absurd cc
  place_case false k c e = front_kept pool more k c e

  pub entry_kept : (i : ℕ) (c : Const) → entry_of pool i ≡ Some c → entry_of (pool ++ more) i ≡ Some c
  entry_kept i c e = place_case (i == 0) (i - 1) c e

  chain_case : {B : Type 0} (f : Const → Option B) (i : ℕ) (o : Option Const) → entry_of pool i ≡ o → IsSome (option_and_then f o) → option_and_then f (entry_of (pool ++ more) i) ≡ option_and_then f (entry_of pool i)
  chain_case f i None e h = absurd cc
  chain_case f i (Some c) e h = ap (option_and_then f) (entry_kept i c e) ∙ sym (ap (option_and_then f) e)

  pub chain_kept : {B : Type 0} (f : Const → Option B) (i : ℕ) → IsSome (option_and_then f (entry_of pool i)) → option_and_then f (entry_of (pool ++ more) i) ≡ option_and_then f (entry_of pool i)
  chain_kept f i h = chain_case f i (entry_of pool i) refl h

  pub text_kept : (i : ℕ) → IsSome (text_of pool i) → text_of (pool ++ more) i ≡ text_of pool i
  text_kept i h = chain_kept text_in i h

  named_case : {B : Type 0} (f : Const → Option B) (g : B → ℕ) (i : ℕ) (o : Option B) → option_and_then f (entry_of pool i) ≡ o → IsSome (option_and_then (λ b. text_of pool (g b)) o)
      → option_and_then (λ b. text_of (pool ++ more) (g b)) (option_and_then f (entry_of (pool ++ more) i)) ≡ option_and_then (λ b. text_of pool (g b)) (option_and_then f (entry_of pool i))
  named_case f g i None e h = absurd cc
  named_case f g i (Some b) e h =
      let there : IsSome (option_and_then f (entry_of pool i)) = rw e refl in
      ap (option_and_then (λ b. text_of (pool ++ more) (g b))) (chain_kept f i there ∙ e) ∙ text_kept (g b) h ∙ sym (ap (option_and_then (λ b. text_of pool (g b))) e)

  pub class_kept : (i : ℕ) → IsSome (class_name_of pool i) → class_name_of (pool ++ more) i ≡ class_name_of pool i
  class_kept i h = named_case class_in (λ j. j) i (option_and_then class_in (entry_of pool i)) refl h

  pub name_kept : (i : ℕ) → IsSome (pair_name_of pool i) → pair_name_of (pool ++ more) i ≡ pair_name_of pool i
  name_kept i h = named_case pair_in (λ pair. pair.0) i (option_and_then pair_in (entry_of pool i)) refl h

  pub desc_kept : (i : ℕ) → IsSome (pair_desc_of pool i) → pair_desc_of (pool ++ more) i ≡ pair_desc_of pool i
  desc_kept i h = named_case pair_in (λ pair. pair.1) i (option_and_then pair_in (entry_of pool i)) refl h
