-- Lists of values, each null or an object.
use Rattle.std.proofs.Common.{◌≡◌, ℕ, zero, suc, ◌++◌, Bool, true, false, List, [], ◌∷◌, length, take, drop, Some, refl, subst}
use Rattle.std.specs.Prelude.{slice_get, slice_set, nat_le, nat_lt, if◌then◌else◌}
use Rattle.std.specs.List.{insert, remove}
use Rattle.program_rules.specs.declared.value.Value.{Value}
use Rattle.program_rules.specs.declared.value.Value.TheVariants.{Int, Long, Ref, Null}
use Rattle.program_rules.specs.Names.{Name, object_name}
use Rattle.program_rules.specs.Objects.{Object, ObjectKind, Plain, ArrayOf}
use Rattle.program_rules.specs.Deeds.{insert_item, remove_item}
use Rattle.program_rules.specs.Kinds.{OfReference}
use Rattle.type_rules.specs.References.{Classes}
use Rattle.type_laws.specs.Values.{IsWithin, kind_within, MayRefer, IsThere, EachOfKind, AllKept}

-- By a test.
pub of_either : {A : Type 0} (P : A → Type 0) (b : Bool) (x y : A) → P x → P y → P (if b then x else y)
of_either P true x y i j = i
of_either P false x y i j = j

module _ (c : Classes) (h : List Object) where
  -- an object within any class is there
  pub is_there : (n : Name) (v : Value) → MayRefer (IsWithin c h n) v → MayRefer (IsThere h) v
  is_there n (Int z) i = absurd i
  is_there n (Long z) i = absurd i
  is_there n (Ref x) i = (i.object, i.there)
  is_there n Null i = tt

  -- one that is there is within Object
  all_within : (k : ObjectKind) → kind_within c k object_name ≡ true
  all_within (Plain n) = refl
  all_within (ArrayOf k) = refl

  pub is_object : (v : Value) → MayRefer (IsThere h) v → MayRefer (IsWithin c h object_name) v
  is_object (Int z) i = absurd i
  is_object (Long z) i = absurd i
  is_object (Ref x) i = record { object = i.0; there = i.1; within = all_within i.0.kind }
  is_object Null i = tt

  -- the elements of an array of references
  pub each_there : (n : Name) (vs : List Value) → EachOfKind c h (OfReference n) vs → AllKept h vs
  each_there n [] a = tt
  each_there n (v ∷ vs) a = (is_there n v a.0, each_there n vs a.1)

module _ (h : List Object) where
  pub all_joined : (us vs : List Value) → AllKept h us → AllKept h vs → AllKept h (us ++ vs)
  all_joined [] vs a b = b
  all_joined (u ∷ us) vs a b = (a.0, all_joined us vs a.1 b)

  all_taken : (k : ℕ) (vs : List Value) → AllKept h vs → AllKept h (take k vs)
  all_taken zero vs a = tt
  all_taken (suc k) [] a = tt
  all_taken (suc k) (v ∷ vs) a = (a.0, all_taken k vs a.1)

  all_dropped : (k : ℕ) (vs : List Value) → AllKept h vs → AllKept h (drop k vs)
  all_dropped zero vs a = a
  all_dropped (suc k) [] a = tt
  all_dropped (suc k) (v ∷ vs) a = all_dropped k vs a.1

  pub all_with : (vs : List Value) (k : ℕ) (v : Value) → AllKept h vs → MayRefer (IsThere h) v → AllKept h (slice_set vs k v)
  all_with [] k v a i = tt
  all_with (u ∷ vs) zero v a i = (i, a.1)
  all_with (u ∷ vs) (suc k) v a i = (a.0, all_with vs k v a.1 i)

  pub all_inserted : (k : ℕ) (v : Value) (vs : List Value) → AllKept h vs → MayRefer (IsThere h) v → AllKept h (insert_item k v vs)
  all_inserted k v vs a i = of_either (AllKept h) (nat_le k (length vs)) (insert vs k v) vs (all_joined (take k vs) (v ∷ drop k vs) (all_taken k vs a) (i, all_dropped k vs a)) a

  pub all_cut : (k : ℕ) (vs : List Value) → AllKept h vs → AllKept h (remove_item k vs)
  all_cut k vs a = of_either (AllKept h) (nat_lt k (length vs)) (remove vs k) vs (all_joined (take k vs) (drop (suc k) vs) (all_taken k vs a) (all_dropped (suc k) vs a)) a

  pub kept_at : (vs : List Value) (k : ℕ) (v : Value) → AllKept h vs → slice_get vs k ≡ Some v → MayRefer (IsThere h) v
  kept_at [] k v a e = absurd cc
  kept_at (u ∷ vs) zero v a e = let one : u ≡ v = cc in subst (MayRefer (IsThere h)) one a.0
  kept_at (u ∷ vs) (suc k) v a e = kept_at vs k v a.1 e
