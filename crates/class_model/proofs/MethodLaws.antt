-- A method descriptor that is read is spelled so, and is read from its text.
use Rattle.std.proofs.Common.{◌≡◌, ℕ, zero, suc, ◌<◌, ◌≤◌, Bool, true, false, cond, eqb, List, [], ◌∷◌, ◌++◌, length, Option, Some, None, refl, sym, ap, subst, ◌∙◌, arith, append_assoc, length-append, nat_eq}
use Rattle.std.specs.Prelude.{◌&&◌, option_and_then, codes}
use Rattle.std.specs.Option.{option_map}
use Rattle.std.specs.List.{AllByRecursion, flat_map}
use Rattle.std.specs.Cmp.Lexicographic.{pointwise}
use Rattle.std.proofs.lemmas.Bool.{eqb-true}
use Rattle.class_model.specs.Descriptor.{byte, char, double, float, int, long, short, boolean, FieldType, base, object, array, MethodDescriptor, field_text, return_text, method_text, IsFieldType, IsReturnType, IsMethodDescriptor}
use Rattle.class_model.specs.DescriptorReading.{field_type_at, field_type_of, parameters_at, return_type_of, method_descriptor_of}
use Rattle.class_model.proofs.DescriptorLaws.{IsAtFront, type_takes, type_again, field_takes, field_again}

abbrev pub Parameters : Type 0
Parameters = List FieldType × List ℕ

-- field types, a closing parenthesis, and the rest
pub record AreAtFront (units : List ℕ) (x : Parameters) : Type 0 where
  pub form : AllByRecursion IsFieldType x.0
  pub parts : flat_map field_text x.0 ++ 41 ∷ x.1 ≡ units

params_are : (x y : Parameters) → Some x ≡ Some y → x ≡ y
params_are x y e = cc

abbrev pub put_first : FieldType → Parameters → Parameters
put_first t others = (t ∷ others.0, others.1)

abbrev pub others_at : ℕ → FieldType × List ℕ → Option Parameters
others_at turns x = option_map (put_first x.0) (parameters_at turns x.1)

abbrev pub types_at : ℕ → Option (FieldType × List ℕ) → Option Parameters
types_at turns o = option_and_then (others_at turns) o

-- ---- one step of reading

pub at_end : (turns : ℕ) (units : List ℕ) → parameters_at (suc turns) (41 ∷ units) ≡ Some ([], units)
unfolding parameters_at
at_end turns units = refl

pub at_type : (turns first : ℕ) (units : List ℕ) → eqb first 41 ≡ false → parameters_at (suc turns) (first ∷ units) ≡ types_at turns (field_type_at (first ∷ units))
unfolding parameters_at
at_type turns first units is = rw is refl

pub at_none : (turns : ℕ) → parameters_at turns [] ≡ None
unfolding parameters_at
at_none turns = refl

no_turns : (first : ℕ) (units : List ℕ) → parameters_at zero (first ∷ units) ≡ None
unfolding parameters_at
no_turns first units = refl

-- ---- what is read is spelled so

put_takes : (t : FieldType) (units behind : List ℕ) (y : Parameters) → IsFieldType t → field_text t ++ behind ≡ units → AreAtFront behind y → AreAtFront units (put_first t y)
put_takes t units behind y form parts h = record {
  form = (form, h.form);
  parts = append_assoc (field_text t) (flat_map field_text y.0) (41 ∷ y.1) ∙ ap (λ (r : List ℕ). field_text t ++ r) h.parts ∙ parts;
}

others_take : (turns : ℕ) (units : List ℕ) (t : FieldType × List ℕ) (o : Option Parameters) (x : Parameters) → IsAtFront units t → parameters_at turns t.1 ≡ o → option_map (put_first t.0) o ≡ Some x
    → ((y : Parameters) → o ≡ Some y → AreAtFront t.1 y) → AreAtFront units x
others_take turns units t None x at is e ih = absurd cc
others_take turns units t (Some y) x at is e ih = subst (AreAtFront units) (params_are (put_first t.0 y) x e) (put_takes t.0 units t.1 y at.form at.parts (ih y refl))

types_take : (turns : ℕ) (units : List ℕ) (o : Option (FieldType × List ℕ)) (x : Parameters) → field_type_at units ≡ o → types_at turns o ≡ Some x
    → ((behind : List ℕ) (y : Parameters) → parameters_at turns behind ≡ Some y → AreAtFront behind y) → AreAtFront units x
types_take turns units None x is e ih = absurd cc
types_take turns units (Some t) x is e ih = others_take turns units t (parameters_at turns t.1) x (type_takes units t is) refl e (ih t.1)

end_takes : (units : List ℕ) (x : Parameters) → Some ([], units) ≡ Some x → AreAtFront (41 ∷ units) x
end_takes units x e = subst (AreAtFront (41 ∷ units)) (params_are ([], units) x e) (record { form = tt; parts = refl })

step_takes : (turns first : ℕ) (units : List ℕ) (b : Bool) (x : Parameters) → eqb first 41 ≡ b → parameters_at (suc turns) (first ∷ units) ≡ Some x
    → ((behind : List ℕ) (y : Parameters) → parameters_at turns behind ≡ Some y → AreAtFront behind y) → AreAtFront (first ∷ units) x
step_takes turns first units true x is e ih =
    let same : 41 ≡ first = sym (eqb-true first 41 is) in
    let read : parameters_at (suc turns) (41 ∷ units) ≡ Some x = ap (λ (n : ℕ). parameters_at (suc turns) (n ∷ units)) same ∙ e in
    subst (λ (n : ℕ). AreAtFront (n ∷ units) x) same (end_takes units x (sym (at_end turns units) ∙ read))
step_takes turns first units false x is e ih = types_take turns (first ∷ units) _ x refl (sym (at_type turns first units is) ∙ e) ih

pub params_take : (turns : ℕ) (units : List ℕ) (x : Parameters) → parameters_at turns units ≡ Some x → AreAtFront units x
params_take turns [] x e = let none = at_none turns in absurd cc
params_take zero (first ∷ units) x e = let none = no_turns first units in absurd cc
params_take (suc turns) (first ∷ units) x e = step_takes turns first units (eqb first 41) x refl e (params_take turns)

-- ---- what is spelled is read again

type_step : (turns : ℕ) (t : FieldType) (more : List ℕ) → parameters_at (suc turns) (field_text t ++ more) ≡ types_at turns (field_type_at (field_text t ++ more))
unfolding parameters_at
type_step turns (base byte) more = refl
type_step turns (base char) more = refl
type_step turns (base double) more = refl
type_step turns (base float) more = refl
type_step turns (base int) more = refl
type_step turns (base long) more = refl
type_step turns (base short) more = refl
type_step turns (base boolean) more = refl
type_step turns (object name) more = refl
type_step turns (array t) more = refl

pub text_length : (t : FieldType) → 1 ≤ length (field_text t)
text_length (base b) = omega arith
text_length (object name) = omega arith
text_length (array t) = omega arith

first_again : (turns : ℕ) (t : FieldType) (more : List ℕ) → IsFieldType t → parameters_at (suc turns) (field_text t ++ more) ≡ option_map (put_first t) (parameters_at turns more)
first_again turns t more form = type_step turns t more ∙ ap (types_at turns) (type_again t more form)

pub params_again : (turns : ℕ) (ts : List FieldType) (rest : List ℕ) → length (flat_map field_text ts) < turns → AllByRecursion IsFieldType ts
    → parameters_at turns (flat_map field_text ts ++ 41 ∷ rest) ≡ Some (ts, rest)
params_again zero ts rest lt form = absurd (omega (arith, lt))
params_again (suc turns) [] rest lt form = at_end turns rest
params_again (suc turns) (t ∷ ts) rest lt form =
    let long = text_length t in
    let sum = length-append (field_text t) (flat_map field_text ts) in
    ap (parameters_at (suc turns)) (append_assoc (field_text t) (flat_map field_text ts) (41 ∷ rest))
    ∙ first_again turns t (flat_map field_text ts ++ 41 ∷ rest) form.0
    ∙ ap (option_map (put_first t)) (params_again turns ts rest (omega (arith, lt, long, sum)) form.1)

-- ---- the result

and_true : (a b : Bool) → a && b ≡ true → (a ≡ true) × (b ≡ true)
and_true true b e = (refl, e)
and_true false b e = absurd cc

apart : false ≡ true → ⊥
apart e = absurd cc

void_is : (units : List ℕ) → pointwise nat_eq units (codes "V") ≡ true → units ≡ 86 ∷ []
void_is [] e = absurd (apart e)
void_is (u ∷ []) e = let same = eqb-true u 86 (and_true (eqb u 86) true e).0 in rw same refl
void_is (u ∷ v ∷ us) e = let both = and_true (eqb u 86) false e in absurd (apart both.1)

pub record IsReturned (units : List ℕ) (t : Option FieldType) : Type 0 where
  pub form : IsReturnType t
  pub parts : units ≡ return_text t

returned_is : (s t : Option FieldType) → Some s ≡ Some t → s ≡ t
returned_is s t e = cc

type_returned : (units : List ℕ) (o : Option FieldType) (t : Option FieldType) → field_type_of units ≡ o → option_map Some o ≡ Some t → IsReturned units t
type_returned units None t is e = absurd cc
type_returned units (Some s) t is e = let h = field_takes units s is in subst (IsReturned units) (returned_is (Some s) t e) (record { form = h.form; parts = h.text })

returned_by : (units : List ℕ) (b : Bool) (t : Option FieldType) → pointwise nat_eq units (codes "V") ≡ b → cond b (Some None) (option_map Some (field_type_of units)) ≡ Some t → IsReturned units t
returned_by units true t is e = subst (IsReturned units) (returned_is None t e) (record { form = tt; parts = void_is units is })
returned_by units false t is e = type_returned units (field_type_of units) t refl e

returned_takes : (units : List ℕ) (t : Option FieldType) → return_type_of units ≡ Some t → IsReturned units t
returned_takes units t e = returned_by units _ t refl e

-- no field type is V
not_void : (t : FieldType) → pointwise nat_eq (field_text t) (codes "V") ≡ false
not_void (base byte) = refl
not_void (base char) = refl
not_void (base double) = refl
not_void (base float) = refl
not_void (base int) = refl
not_void (base long) = refl
not_void (base short) = refl
not_void (base boolean) = refl
not_void (object name) = refl
not_void (array t) = refl

returned_again : (t : Option FieldType) → IsReturnType t → return_type_of (return_text t) ≡ Some t
returned_again None form = refl
returned_again (Some t) form = rw (not_void t) (ap (option_map Some) (field_again (field_text t) t (record { form = form; text = refl })))

-- ---- the whole descriptor

abbrev with_result : List FieldType → Option FieldType → MethodDescriptor
with_result ts t = record { parameters = ts; returned = t }

method_is : (m n : MethodDescriptor) → Some m ≡ Some n → m ≡ n
method_is m n e = cc

result_takes : (units : List ℕ) (x : Parameters) (o : Option (Option FieldType)) (m : MethodDescriptor) → AreAtFront units x → return_type_of x.1 ≡ o → option_map (with_result x.0) o ≡ Some m
    → IsMethodDescriptor (40 ∷ units) m
result_takes units x None m at is e = absurd cc
result_takes units x (Some t) m at is e =
    let r = returned_takes x.1 t is in
    let text : 40 ∷ units ≡ method_text (with_result x.0 t) = ap (λ (u : List ℕ). 40 ∷ u) (sym at.parts ∙ ap (λ (u : List ℕ). flat_map field_text x.0 ++ 41 ∷ u) r.parts) in
    subst (IsMethodDescriptor (40 ∷ units)) (method_is (with_result x.0 t) m e) (record { parameters = at.form; returned = r.form; text = text })

abbrev method_in : Option Parameters → Option MethodDescriptor
method_in o = option_and_then (λ x. option_map (with_result x.0) (return_type_of x.1)) o

params_method : (units : List ℕ) (o : Option Parameters) (m : MethodDescriptor) → parameters_at (length units) units ≡ o → method_in o ≡ Some m → IsMethodDescriptor (40 ∷ units) m
params_method units None m is e = absurd cc
params_method units (Some x) m is e = result_takes units x _ m (params_take (length units) units x is) refl e

method_by : (first : ℕ) (units : List ℕ) (b : Bool) (m : MethodDescriptor) → eqb first 40 ≡ b → cond b (method_in (parameters_at (length units) units)) None ≡ Some m → IsMethodDescriptor (first ∷ units) m
method_by first units true m is e = subst (λ (f : ℕ). IsMethodDescriptor (f ∷ units) m) (sym (eqb-true first 40 is)) (params_method units _ m refl e)
method_by first units false m is e = absurd cc

pub method_takes : (desc : List ℕ) (m : MethodDescriptor) → method_descriptor_of desc ≡ Some m → IsMethodDescriptor desc m
method_takes [] m e = absurd cc
method_takes (first ∷ units) m e = method_by first units (eqb first 40) m refl e

text_again : (m : MethodDescriptor) → AllByRecursion IsFieldType m.parameters → IsReturnType m.returned → method_descriptor_of (method_text m) ≡ Some m
text_again m params returned =
    let texts = flat_map field_text m.parameters in
    let units = texts ++ 41 ∷ return_text m.returned in
    let sum = length-append texts (41 ∷ return_text m.returned) in
    ap method_in (params_again (length units) m.parameters (return_text m.returned) (omega (arith, sum)) params) ∙ ap (option_map (with_result m.parameters)) (returned_again m.returned returned)

pub method_again : (desc : List ℕ) (m : MethodDescriptor) → IsMethodDescriptor desc m → method_descriptor_of desc ≡ Some m
method_again desc m h = ap method_descriptor_of h.text ∙ text_again m h.parameters h.returned
