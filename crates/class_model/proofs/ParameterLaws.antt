-- The kinds of a method's parameters, read one by one.
use Rattle.std.proofs.Common.{◌≡◌, ℕ, zero, suc, ◌+◌, ◌<◌, ◌≤◌, Bool, true, false, cond, eqb, List, [], ◌∷◌, ◌++◌, length, Option, Some, None, refl, sym, ap, subst, ◌∙◌, arith, append_assoc, length-append}
use Rattle.std.specs.Prelude.{option_and_then}
use Rattle.std.specs.Option.{option_map}
use Rattle.std.proofs.lemmas.Bool.{eqb-true}
use Rattle.std.proofs.lemmas.List.{append-nil}
use Rattle.class_model.specs.Descriptor.{FieldType, kind_of, field_text}
use Rattle.class_model.specs.DescriptorReading.{field_type_at, parameters_at}
use Rattle.class_model.specs.Steps.{as_kind, as_kinds, kind_at, parameter_at, kinds_at, with_kind, with_last}
use Rattle.class_model.specs.declared.kind.Kind.{Kind}
use Rattle.class_model.proofs.DescriptorLaws.{type_takes}
use Rattle.class_model.proofs.MethodLaws.{Parameters, put_first, types_at, at_end, at_type, at_none, text_length}

abbrev pub Kinds : Type 0
Kinds = Option (List Kind) × List ℕ

-- kinds that were read before, in front of others
abbrev joined : Option (List Kind) → Option (List Kind) → Option (List Kind)
joined front back = option_and_then (λ ks. option_map (λ ls. ks ++ ls) back) front

abbrev pub in_front : Option (List Kind) → Kinds → Kinds
in_front front x = (joined front x.0, x.1)

abbrev put_kind : Option Kind → Kinds → Kinds
put_kind first x = (with_kind first x.0, x.1)

-- ---- turns enough

shorter : (units : List ℕ) (x : FieldType × List ℕ) → field_type_at units ≡ Some x → length x.1 < length units
shorter units x e =
    let h = type_takes units x e in
    let long = text_length x.0 in
    let sum : length units ≡ length (field_text x.0) + length x.1 = ap (λ (l : List ℕ). length l) (sym h.parts) ∙ length-append (field_text x.0) x.1 in
    omega (arith, long, sum)

enough_on : (n m : ℕ) (units : List ℕ) (o : Option (FieldType × List ℕ)) → field_type_at units ≡ o → length units ≤ suc n → length units ≤ suc m
    → ((behind : List ℕ) → length behind ≤ n → length behind ≤ m → parameters_at n behind ≡ parameters_at m behind) → types_at n o ≡ types_at m o
enough_on n m units None is le lf ih = refl
enough_on n m units (Some x) is le lf ih = let lt = shorter units x is in ap (option_map (put_first x.0)) (ih x.1 (omega (arith, lt, le)) (omega (arith, lt, lf)))

enough_at : (n m first : ℕ) (units : List ℕ) (b : Bool) → eqb first 41 ≡ b → length (first ∷ units) ≤ suc n → length (first ∷ units) ≤ suc m
    → ((behind : List ℕ) → length behind ≤ n → length behind ≤ m → parameters_at n behind ≡ parameters_at m behind) → parameters_at (suc n) (first ∷ units) ≡ parameters_at (suc m) (first ∷ units)
enough_at n m first units true is le lf ih =
    subst (λ (f : ℕ). parameters_at (suc n) (f ∷ units) ≡ parameters_at (suc m) (f ∷ units)) (sym (eqb-true first 41 is)) (at_end n units ∙ sym (at_end m units))
enough_at n m first units false is le lf ih = at_type n first units is ∙ enough_on n m (first ∷ units) _ refl le lf ih ∙ sym (at_type m first units is)

enough : (n m : ℕ) (units : List ℕ) → length units ≤ n → length units ≤ m → parameters_at n units ≡ parameters_at m units
enough n m [] le lf = at_none n ∙ sym (at_none m)
enough zero m (first ∷ units) le lf = absurd (omega (arith, le))
enough (suc n) zero (first ∷ units) le lf = absurd (omega (arith, lf))
enough (suc n) (suc m) (first ∷ units) le lf = enough_at n m first units (eqb first 41) refl le lf (λ behind lg lh. enough n m behind lg lh)

-- ---- one step

pub kinds_at-end : (units : List ℕ) → kinds_at (41 ∷ units) ≡ Some (Some [], units)
kinds_at-end units = ap (option_map as_kinds) (at_end (length units) units)

pub kinds_at-none : kinds_at [] ≡ None
kinds_at-none = ap (option_map as_kinds) (at_none 0)

missing_on : (n : ℕ) (o : Option (FieldType × List ℕ)) → option_map as_kind o ≡ None → types_at n o ≡ None
missing_on n None e = refl
missing_on n (Some x) e = absurd cc

pub kinds_at-missing : (first : ℕ) (units : List ℕ) → eqb first 41 ≡ false → kind_at (first ∷ units) ≡ None → kinds_at (first ∷ units) ≡ None
kinds_at-missing first units is e = ap (option_map as_kinds) (at_type (length units) first units is ∙ missing_on (length units) (field_type_at (first ∷ units)) e)

others : (t : FieldType) (o : Option Parameters) → option_map as_kinds (option_map (put_first t) o) ≡ option_map (put_kind (kind_of t)) (option_map as_kinds o)
others t None = refl
others t (Some x) = refl

kind_is : (x y : Option Kind × List ℕ) → Some x ≡ Some y → x ≡ y
kind_is x y e = cc

step_on : (first : ℕ) (units : List ℕ) (o : Option (FieldType × List ℕ)) (x : Option Kind × List ℕ) → field_type_at (first ∷ units) ≡ o → option_map as_kind o ≡ Some x
    → option_map as_kinds (types_at (length units) o) ≡ option_map (put_kind x.0) (kinds_at x.1)
step_on first units None x is e = absurd cc
step_on first units (Some t) x is e =
    let lt : length t.1 < length (first ∷ units) = shorter (first ∷ units) t is in
    let le : length t.1 ≤ length units = omega (arith, lt) in
    let same : as_kind t ≡ x = kind_is (as_kind t) x e in
    others t.0 (parameters_at (length units) t.1)
    ∙ ap (λ (p : Option Parameters). option_map (put_kind (kind_of t.0)) (option_map as_kinds p)) (enough (length units) (length t.1) t.1 le (omega arith))
    ∙ ap (λ (y : Option Kind × List ℕ). option_map (put_kind y.0) (kinds_at y.1)) same

kinds_at-step : (first : ℕ) (units : List ℕ) (x : Option Kind × List ℕ) → eqb first 41 ≡ false → kind_at (first ∷ units) ≡ Some x → kinds_at (first ∷ units) ≡ option_map (put_kind x.0) (kinds_at x.1)
kinds_at-step first units x is e = ap (option_map as_kinds) (at_type (length units) first units is) ∙ step_on first units _ x refl e

-- ---- what was read before

regroup_kinds : (front : Option (List Kind)) (k : Option Kind) (back : Option (List Kind)) → joined front (with_kind k back) ≡ joined (with_last front k) back
regroup_kinds None k back = refl
regroup_kinds (Some ks) None back = refl
regroup_kinds (Some ks) (Some k) None = refl
regroup_kinds (Some ks) (Some k) (Some ls) = ap Some (sym (append_assoc ks (k ∷ []) ls))

regroup : (front : Option (List Kind)) (k : Option Kind) (o : Option Kinds) → option_map (in_front front) (option_map (put_kind k) o) ≡ option_map (in_front (with_last front k)) o
regroup front k None = refl
regroup front k (Some x) = ap (λ (ks : Option (List Kind)). Some (ks, x.1)) (regroup_kinds front k x.0)

-- ---- in the words of one parameter

abbrev kinds_after : Option (Option (Option Kind) × List ℕ) → Option Kinds
kinds_after None = None
kinds_after (Some (None, behind)) = Some (Some [], behind)
kinds_after (Some (Some k, behind)) = option_map (put_kind k) (kinds_at behind)

abbrev as_parameter : Option Kind × List ℕ → Option (Option Kind) × List ℕ
as_parameter x = (Some x.0, x.1)

kinds_by_kind : (first : ℕ) (units : List ℕ) (o : Option (Option Kind × List ℕ)) → eqb first 41 ≡ false → kind_at (first ∷ units) ≡ o → kinds_at (first ∷ units) ≡ kinds_after (option_map as_parameter o)
kinds_by_kind first units None is e = kinds_at-missing first units is e
kinds_by_kind first units (Some x) is e = kinds_at-step first units x is e

kinds_by_first : (first : ℕ) (units : List ℕ) (b : Bool) → eqb first 41 ≡ b → kinds_at (first ∷ units) ≡ kinds_after (cond b (Some (None, units)) (option_map as_parameter (kind_at (first ∷ units))))
kinds_by_first first units true is = ap (λ (f : ℕ). kinds_at (f ∷ units)) (eqb-true first 41 is) ∙ kinds_at-end units
kinds_by_first first units false is = kinds_by_kind first units (kind_at (first ∷ units)) is refl

kinds_by_parameter : (units : List ℕ) → kinds_at units ≡ kinds_after (parameter_at units)
kinds_by_parameter [] = kinds_at-none
kinds_by_parameter (first ∷ units) = kinds_by_first first units (eqb first 41) refl

joined_nothing : (front : Option (List Kind)) → joined front (Some []) ≡ front
joined_nothing None = refl
joined_nothing (Some ks) = ap Some (append-nil ks)

module _ (front : Option (List Kind)) (rest : List ℕ) (whole : Option Kinds) (so_far : whole ≡ option_map (in_front front) (kinds_at rest)) where
  after : whole ≡ option_map (in_front front) (kinds_after (parameter_at rest))
  after = so_far ∙ ap (option_map (in_front front)) (kinds_by_parameter rest)

  pub ends : (behind : List ℕ) → parameter_at rest ≡ Some (None, behind) → whole ≡ Some (front, behind)
  ends behind e = after ∙ ap (λ (p : Option (Option (Option Kind) × List ℕ)). option_map (in_front front) (kinds_after p)) e ∙ ap (λ (ks : Option (List Kind)). Some (ks, behind)) (joined_nothing front)

  pub goes_on : (k : Option Kind) (behind : List ℕ) → parameter_at rest ≡ Some (Some k, behind) → whole ≡ option_map (in_front (with_last front k)) (kinds_at behind)
  goes_on k behind e = after ∙ ap (λ (p : Option (Option (Option Kind) × List ℕ)). option_map (in_front front) (kinds_after p)) e ∙ regroup front k (kinds_at behind)

  pub misses : parameter_at rest ≡ None → whole ≡ None
  misses e = after ∙ ap (λ (p : Option (Option (Option Kind) × List ℕ)). option_map (in_front front) (kinds_after p)) e

nothing_front : (o : Option Kinds) → o ≡ option_map (in_front (Some [])) o
nothing_front None = refl
nothing_front (Some (None, rest)) = refl
nothing_front (Some (Some ks, rest)) = refl

pub begins : (units : List ℕ) → kinds_at units ≡ option_map (in_front (Some [])) (kinds_at units)
begins units = nothing_front (kinds_at units)
