-- Lists of entries, each a hash, a key and a value.
use Rattle.std.proofs.Common.{◌≡◌, ℕ, zero, suc, ◌+◌, ◌*◌, ◌++◌, List, [], ◌∷◌, length, Some, refl, sym, subst, arith}
use Rattle.std.specs.Prelude.{slice_get, slice_set, nat_lt}
use Rattle.std.specs.List.{remove}
use Rattle.program_rules.specs.declared.value.Value.{Value}
use Rattle.program_rules.specs.Objects.{Object}
use Rattle.program_rules.specs.Deeds.{remove_entry}
use Rattle.library_rules.specs.Collections.{values_of_entries, keys_of_entries}
use Rattle.type_laws.specs.Values.{MayRefer, IsIntValue, IsThere, AllKept, AllEntries}
use Rattle.library_laws.proofs.Elements.{of_either}

three_more : (i k : ℕ) → 3 * suc i + k ≡ suc (suc (suc (3 * i + k)))
three_more i k = omega arith

three_times : (i : ℕ) → 3 * suc i ≡ suc (suc (suc (3 * i)))
three_times i = omega arith

at_first : (k : ℕ) → 3 * 0 + k ≡ k
at_first k = omega arith

-- without three of them
abbrev thrice : ℕ → List Value → List Value
thrice k vs = remove (remove (remove vs k) k) k

thrice_of_none : (k : ℕ) → thrice k [] ≡ []
thrice_of_none zero = refl
thrice_of_none (suc k) = refl

module _ (h : List Object) where
  abbrev May : Value → Type 0
  May = MayRefer (IsThere h)

  pub entries_joined : (us vs : List Value) → AllEntries h us → AllEntries h vs → AllEntries h (us ++ vs)
  entries_joined [] vs a b = b
  entries_joined (x ∷ []) vs a b = absurd a
  entries_joined (x ∷ y ∷ []) vs a b = absurd a
  entries_joined (x ∷ y ∷ z ∷ us) vs a b = (a.0, a.1, a.2, entries_joined us vs a.3 b)

  -- What is so of one of the three values of any entry is so of what stands there.
  module _ (P : Value → Type 0) (k : ℕ) (each : (x y z : Value) (vs : List Value) (v : Value) → IsIntValue x → May y → May z → slice_get (x ∷ y ∷ z ∷ vs) k ≡ Some v → P v) where
    part_at : (i : ℕ) (vs : List Value) (v : Value) → AllEntries h vs → slice_get vs (3 * i + k) ≡ Some v → P v
    part_at i [] v a e = absurd cc
    part_at i (x ∷ []) v a e = absurd a
    part_at i (x ∷ y ∷ []) v a e = absurd a
    part_at zero (x ∷ y ∷ z ∷ vs) v a e = each x y z vs v a.0 a.1 a.2 (subst (λ j. slice_get (x ∷ y ∷ z ∷ vs) j ≡ Some v) (at_first k) e)
    part_at (suc i) (x ∷ y ∷ z ∷ vs) v a e = part_at i vs v a.3 (subst (λ j. slice_get (x ∷ y ∷ z ∷ vs) j ≡ Some v) (three_more i k) e)

  hash_in : (x y z : Value) (vs : List Value) (v : Value) → IsIntValue x → May y → May z → slice_get (x ∷ y ∷ z ∷ vs) 0 ≡ Some v → IsIntValue v
  hash_in x y z vs v a b c e = let one : x ≡ v = cc in subst IsIntValue one a

  key_in : (x y z : Value) (vs : List Value) (v : Value) → IsIntValue x → May y → May z → slice_get (x ∷ y ∷ z ∷ vs) 1 ≡ Some v → May v
  key_in x y z vs v a b c e = let one : y ≡ v = cc in subst May one b

  value_in : (x y z : Value) (vs : List Value) (v : Value) → IsIntValue x → May y → May z → slice_get (x ∷ y ∷ z ∷ vs) 2 ≡ Some v → May v
  value_in x y z vs v a b c e = let one : z ≡ v = cc in subst May one c

  pub hash_at : (i : ℕ) (vs : List Value) (v : Value) → AllEntries h vs → slice_get vs (3 * i + 0) ≡ Some v → IsIntValue v
  hash_at = part_at IsIntValue 0 hash_in

  pub key_at : (i : ℕ) (vs : List Value) (v : Value) → AllEntries h vs → slice_get vs (3 * i + 1) ≡ Some v → May v
  key_at = part_at May 1 key_in

  pub value_at : (i : ℕ) (vs : List Value) (v : Value) → AllEntries h vs → slice_get vs (3 * i + 2) ≡ Some v → May v
  value_at = part_at May 2 value_in

  pub with_value : (i : ℕ) (vs : List Value) (v : Value) → AllEntries h vs → May v → AllEntries h (slice_set vs (3 * i + 2) v)
  with_value i [] v a m = tt
  with_value i (x ∷ []) v a m = absurd a
  with_value i (x ∷ y ∷ []) v a m = absurd a
  with_value zero (x ∷ y ∷ z ∷ vs) v a m = subst (λ j. AllEntries h (slice_set (x ∷ y ∷ z ∷ vs) j v)) (sym (at_first 2)) (a.0, a.1, m, a.3)
  with_value (suc i) (x ∷ y ∷ z ∷ vs) v a m = subst (λ j. AllEntries h (slice_set (x ∷ y ∷ z ∷ vs) j v)) (sym (three_more i 2)) (a.0, a.1, a.2, with_value i vs v a.3 m)

  without_three : (i : ℕ) (vs : List Value) → AllEntries h vs → AllEntries h (thrice (3 * i) vs)
  without_three i [] a = subst (AllEntries h) (sym (thrice_of_none (3 * i))) tt
  without_three i (x ∷ []) a = absurd a
  without_three i (x ∷ y ∷ []) a = absurd a
  without_three zero (x ∷ y ∷ z ∷ vs) a = a.3
  without_three (suc i) (x ∷ y ∷ z ∷ vs) a = subst (λ j. AllEntries h (thrice j (x ∷ y ∷ z ∷ vs))) (sym (three_times i)) (a.0, a.1, a.2, without_three i vs a.3)

  pub without_entry : (i : ℕ) (vs : List Value) → AllEntries h vs → AllEntries h (remove_entry (3 * i) vs)
  without_entry i vs a = of_either (AllEntries h) (nat_lt (3 * i + 2) (length vs)) (thrice (3 * i) vs) vs (without_three i vs a) a

  pub keys_are : (vs : List Value) → AllEntries h vs → AllEntries h (keys_of_entries vs)
  keys_are [] a = tt
  keys_are (x ∷ []) a = absurd a
  keys_are (x ∷ y ∷ []) a = absurd a
  keys_are (x ∷ y ∷ z ∷ vs) a = (a.0, a.1, tt, keys_are vs a.3)

  pub values_are : (vs : List Value) → AllEntries h vs → AllKept h (values_of_entries vs)
  values_are [] a = tt
  values_are (x ∷ []) a = absurd a
  values_are (x ∷ y ∷ []) a = absurd a
  values_are (x ∷ y ∷ z ∷ vs) a = (a.2, values_are vs a.3)
