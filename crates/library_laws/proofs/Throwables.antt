-- Throwable and the classes below it.
use Rattle.std.proofs.Common.{◌≡◌, ℕ, zero, suc, ◌||◌, Bool, true, false, List, [], ◌∷◌, ◌++◌, Some, None, refl, sym, subst}
use Rattle.std.specs.Prelude.{slice_get, slice_set}
use Rattle.program_rules.specs.declared.value.Value.{Value}
use Rattle.program_rules.specs.Names.{Name, same, object_name, string_name, is_array_name}
use Rattle.program_rules.specs.Kinds.{Kind, OfReference}
use Rattle.program_rules.specs.Outlines.{outline_of, is_interface_class}
use Rattle.program_rules.specs.Programs.{Look}
use Rattle.program_rules.specs.Objects.{Object, Plain}
use Rattle.program_rules.specs.Deeds.{Deed, Changes, SetValues, on_some}
use Rattle.program_rules.specs.Natives.{on_object}
use Rattle.library_rules.specs.Arguments.{gives}
use Rattle.library_rules.specs.Objects.{message, cause, set_message, set_cause, set_message_and_cause}
use Rattle.type_rules.specs.References.{Classes, is_subtype, classes_of, throwable_name}
use Rattle.type_laws.specs.Values.{field_kinds, IsWithin, OfKind, AllOfKinds, ContentFits, HeapFits}
use Rattle.type_laws.specs.Soundness.{DeedFits, ChangeFits}
use Rattle.type_laws.proofs.Further.{plain_below}
use Rattle.library_laws.specs.Hosts.{IsNativeHost}
use Rattle.library_laws.specs.Fits.{FitsAs}
use Rattle.library_laws.proofs.Forms.{by_receiver, by_this_value, by_this_values, on_its_object}

-- ---- values of kinds

module _ (c : Classes) (h : List Object) where
  with_value : (ks : List Kind) (vs : List Value) (k : ℕ) (v : Value) → AllOfKinds c h ks vs → ((j : Kind) → slice_get ks k ≡ Some j → OfKind c h j v) → AllOfKinds c h ks (slice_set vs k v)
  with_value [] [] k v a f = tt
  with_value [] (u ∷ vs) k v a f = absurd a
  with_value (j ∷ ks) [] k v a f = absurd a
  with_value (j ∷ ks) (u ∷ vs) zero v a f = (f j refl, a.1)
  with_value (j ∷ ks) (u ∷ vs) (suc k) v a f = (a.0, with_value ks vs k v a.1 f)

  of_same : (j k : Kind) (v : Value) → OfKind c h j v → Some j ≡ Some k → OfKind c h k v
  of_same j k v o e = let same : j ≡ k = cc in subst (λ i. OfKind c h i v) same o

module _ (p : Look) (h : List Object) (ks : List Kind) where
  first_given : (j : Kind) (vs : List Value) → AllOfKinds (classes_of p) h (j ∷ ks) vs → DeedFits p h (Some j) (on_some (slice_get vs 0) gives)
  first_given j [] a = absurd a
  first_given j (v ∷ vs) a = a.0

  second_given : (i j : Kind) (vs : List Value) → AllOfKinds (classes_of p) h (i ∷ j ∷ ks) vs → DeedFits p h (Some j) (on_some (slice_get vs 1) gives)
  second_given i j [] a = absurd a
  second_given i j (v ∷ vs) a = first_given j vs a.1

-- ---- the fields of a throwable

-- A class of throwables, by its name.
pub record IsThrown (p : Look) (n : Name) : Type 0 where
  pub below : is_subtype p n throwable_name ≡ true
  pub no_array : is_array_name n ≡ false
  pub no_object : same n object_name ≡ false

-- The kinds of an object's fields.
record HasBoth (p : Look) (o : Object) : Type 0 where
  class : Name
  rest : List Kind
  plain : o.kind ≡ Plain class
  fields : field_kinds p class ≡ OfReference string_name ∷ OfReference throwable_name ∷ rest

module _ (p : Look) (host : IsNativeHost p) (n : Name) (thrown : IsThrown p n) where
  either : (a b : Bool) → a ≡ false → b ≡ false → (a || b) ≡ true → ⊥
  either true b e f g = cc
  either false true e f g = cc
  either false false e f g = cc

  no_interface : (b : Bool) → is_interface_class (outline_of (p n)) ≡ b → b ≡ false
  no_interface true e = absurd (either (same throwable_name object_name) (is_interface_class (outline_of (p throwable_name))) refl host.throwable (host.built.interfaces n throwable_name e thrown.below))
  no_interface false e = refl

  abbrev Within : List Object → ℕ → Type 0
  Within h x = IsWithin (classes_of p) h n x

  abbrev All : List Object → List Kind → List Value → Type 0
  All h ks vs = AllOfKinds (classes_of p) h ks vs

  has_both : (h : List Object) (x : ℕ) (i : Within h x) → HasBoth p i.object
  has_both h x i =
      let b = plain_below (classes_of p) host.built i.object.kind n thrown.no_array thrown.no_object (no_interface _ refl) i.within in
      let up : is_subtype p b.class throwable_name ≡ true = host.built.closed b.class n throwable_name b.below thrown.below in
      let fields = host.layout.begins b.class throwable_name up host.throwable in
      record { class = b.class; rest = fields.0; plain = b.plain; fields = subst (λ ks. field_kinds p b.class ≡ ks ++ fields.0) host.throwable_fields fields.1 }

  module _ (h : List Object) (o : Object) (b : HasBoth p o) where
    abbrev both : List Kind
    both = OfReference string_name ∷ OfReference throwable_name ∷ b.rest

    values_in : (vs : List Value) → ContentFits p h o.kind vs → All h both vs
    values_in vs a = subst (λ ks. All h ks vs) b.fields (subst (λ k. ContentFits p h k vs) b.plain a)

    values_out : (vs : List Value) → All h both vs → ContentFits p h o.kind vs
    values_out vs a = subst (λ k. ContentFits p h k vs) (sym b.plain) (subst (λ ks. All h ks vs) (sym b.fields) a)

  -- ---- what is got

  content : (h : List Object) (x : ℕ) (f : HeapFits p h) (i : Within h x) → All h (both h i.object (has_both h x i)) i.object.values
  content h x f i = values_in h i.object (has_both h x i) i.object.values (f x i.object i.there).1

  pub message_fits : FitsAs p n false [] (Some (OfReference string_name)) message
  message_fits = by_receiver p n (Some (OfReference string_name)) (λ h o. on_some (slice_get o.values 0) gives) (λ h x f i. first_given p h (OfReference throwable_name ∷ (has_both h x i).rest) (OfReference string_name) i.object.values (content h x f i))

  pub cause_fits : FitsAs p n false [] (Some (OfReference throwable_name)) cause
  cause_fits = by_receiver p n (Some (OfReference throwable_name)) (λ h o. on_some (slice_get o.values 1) gives) (λ h x f i. second_given p h (has_both h x i).rest (OfReference string_name) (OfReference throwable_name) i.object.values (content h x f i))

  -- ---- what is set

  abbrev sets : ℕ → (Object → List Value) → Object → Deed
  sets x values o = Changes x (SetValues (values o)) 0 None

  set_fits : (h : List Object) (x : ℕ) (f : HeapFits p h) (i : Within h x) (values : Object → List Value) → All h (both h i.object (has_both h x i)) (values i.object) → DeedFits p h None (on_object h x (sets x values))
  set_fits h x f i values a =
      let fits = f x i.object i.there in
      let changed : ChangeFits p h x (SetValues (values i.object)) = record { object = i.object; there = i.there; fits = (fits.0, values_out h i.object (has_both h x i) (values i.object) a, fits.2) } in
      on_its_object p n None h x i (sets x values) (changed, tt)

  module _ (h : List Object) (rest : List Kind) (vs : List Value) where
    with_first : (j : Kind) (v : Value) → All h (j ∷ rest) vs → OfKind (classes_of p) h j v → All h (j ∷ rest) (slice_set vs 0 v)
    with_first j v a o = with_value (classes_of p) h (j ∷ rest) vs 0 v a (λ k e. of_same (classes_of p) h j k v o e)

    with_second : (i j : Kind) (v : Value) → All h (i ∷ j ∷ rest) vs → OfKind (classes_of p) h j v → All h (i ∷ j ∷ rest) (slice_set vs 1 v)
    with_second i j v a o = with_value (classes_of p) h (i ∷ j ∷ rest) vs 1 v a (λ k e. of_same (classes_of p) h j k v o e)

  pub set_message_fits : FitsAs p n false (OfReference string_name ∷ []) None set_message
  set_message_fits = by_this_value p n None (OfReference string_name) (λ h x v. on_object h x (sets x (λ o. slice_set o.values 0 v))) (λ h x v f i q. set_fits h x f i (λ o. slice_set o.values 0 v) (with_first h (OfReference throwable_name ∷ (has_both h x i).rest) i.object.values (OfReference string_name) v (content h x f i) q))

  pub set_cause_fits : FitsAs p n false (OfReference throwable_name ∷ []) None set_cause
  set_cause_fits = by_this_value p n None (OfReference throwable_name) (λ h x v. on_object h x (sets x (λ o. slice_set o.values 1 v))) (λ h x v f i q. set_fits h x f i (λ o. slice_set o.values 1 v) (with_second h (has_both h x i).rest i.object.values (OfReference string_name) (OfReference throwable_name) v (content h x f i) q))

  pub set_both_fits : FitsAs p n false (OfReference string_name ∷ OfReference throwable_name ∷ []) None set_message_and_cause
  set_both_fits =
      by_this_values p n None (OfReference string_name) (OfReference throwable_name) (λ h x u v. on_object h x (sets x (λ o. slice_set (slice_set o.values 0 u) 1 v))) (λ h x u v f i q r.
      set_fits h x f i (λ o. slice_set (slice_set o.values 0 u) 1 v)
      (with_second h (has_both h x i).rest (slice_set i.object.values 0 u) (OfReference string_name) (OfReference throwable_name) v (with_first h (OfReference throwable_name ∷ (has_both h x i).rest) i.object.values (OfReference string_name) u (content h x f i) q) r))
