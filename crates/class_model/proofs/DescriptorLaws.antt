-- A field type that is read is spelled so, and is read from its text.
use Rattle.std.proofs.Common.{◌≡◌, ℕ, suc, ◌+◌, ◌-◌, ◌<◌, Bool, true, false, cond, eqb, List, [], ◌∷◌, ◌++◌, length, take, Option, Some, None, refl, sym, ap, subst, ◌∙◌, arith, append_assoc, length-append}
use Rattle.std.specs.Prelude.{option_and_then}
use Rattle.std.specs.Option.{option_map}
use Rattle.std.proofs.lemmas.Bool.{eqb-true}
use Rattle.std.proofs.lemmas.List.{take_at, append-nil, nil_from_length}
use Rattle.class_model.specs.Parting.{parted_at}
use Rattle.class_model.specs.DeclaredName.{is_class_name}
use Rattle.class_model.proofs.PartingLaws.{parted, parted_again}
use Rattle.class_model.proofs.NameLaws.{class_name_free}
use Rattle.class_model.specs.Descriptor.{BaseType, byte, char, double, float, int, long, short, boolean, FieldType, base, object, array, field_text, letter, IsFieldType, IsFieldDescriptor, kind_of}
use Rattle.class_model.specs.DescriptorReading.{base_of, object_at, element_at, field_type_at, field_type_of}
use Rattle.class_model.specs.Steps.{as_kind, kind_at}
use Rattle.class_model.specs.declared.kind.Kind.{Kind}
use Rattle.class_model.specs.declared.kind.Kind.TheVariants as kind

-- an array's kind is its text, which is what stands in front of the rest
abbrev pub wrapped : List ℕ → Option Kind × List ℕ → Option Kind × List ℕ
wrapped desc x = (option_map (λ k. kind.Ref (take (length desc - length x.1) desc)) x.0, x.1)

-- ---- what is read is spelled so

pub record IsAtFront (units : List ℕ) (x : FieldType × List ℕ) : Type 0 where
  pub form : IsFieldType x.0
  pub parts : field_text x.0 ++ x.1 ≡ units

some_is : (x y : FieldType × List ℕ) → Some x ≡ Some y → x ≡ y
some_is x y e = cc

nothing_read : (y : FieldType × List ℕ) → None ≡ Some y → ⊥
nothing_read y e = absurd cc

-- what was found by a test, or behind it
pick : (P : FieldType × List ℕ → Type 0) (b : Bool) (o p : Option (FieldType × List ℕ)) (y : FieldType × List ℕ) → cond b o p ≡ Some y → (b ≡ true → o ≡ Some y → P y) → (b ≡ false → p ≡ Some y → P y) → P y
pick P true o p y e here there = here refl e
pick P false o p y e here there = there refl e

-- ---- base types

pick_base : (P : BaseType → Type 0) (b : Bool) (v : BaseType) (o : Option BaseType) (y : BaseType) → cond b (Some v) o ≡ Some y → (b ≡ true → P v) → (o ≡ Some y → P y) → P y
pick_base P true v o y e here there = let same : v ≡ y = cc in subst P same (here refl)
pick_base P false v o y e here there = there e

is_letter : (first n : ℕ) → eqb first n ≡ true → n ≡ first
is_letter first n e = sym (eqb-true first n e)

no_base : (b : BaseType) → None ≡ Some b → ⊥
no_base b e = absurd cc

letter_of : (first : ℕ) (b : BaseType) → base_of first ≡ Some b → letter b ≡ first
letter_of first b e =
    let P : BaseType → Type 0 = λ v. letter v ≡ first in
    pick_base P (eqb first 66) byte _ b e (is_letter first 66) (λ e.
    pick_base P (eqb first 67) char _ b e (is_letter first 67) (λ e.
    pick_base P (eqb first 68) double _ b e (is_letter first 68) (λ e.
    pick_base P (eqb first 70) float _ b e (is_letter first 70) (λ e.
    pick_base P (eqb first 73) int _ b e (is_letter first 73) (λ e.
    pick_base P (eqb first 74) long _ b e (is_letter first 74) (λ e.
    pick_base P (eqb first 83) short _ b e (is_letter first 83) (λ e.
    pick_base P (eqb first 90) boolean _ b e (is_letter first 90) (λ e. absurd (no_base b e)))))))))

base_takes : (first : ℕ) (units : List ℕ) (o : Option BaseType) (x : FieldType × List ℕ) → base_of first ≡ o → option_map (λ b. (base b, units)) o ≡ Some x → IsAtFront (first ∷ units) x
base_takes first units None x is e = absurd cc
base_takes first units (Some b) x is e =
    let same = some_is (base b, units) x e in
    subst (IsAtFront (first ∷ units)) same (record { form = tt; parts = ap (λ (n : ℕ). n ∷ units) (letter_of first b is) })

-- ---- classes

object_parts : (name behind units : List ℕ) → units ≡ name ++ 59 ∷ behind → field_text (object name) ++ behind ≡ 76 ∷ units
object_parts name behind units e = ap (λ (t : List ℕ). 76 ∷ t) (append_assoc name (59 ∷ []) behind ∙ sym e)

object_found : (units : List ℕ) (b : Bool) (name behind : List ℕ) (x : FieldType × List ℕ) → is_class_name name ≡ b → parted_at 59 units ≡ Some (name, behind)
    → cond b (Some (object name, behind)) None ≡ Some x → IsAtFront (76 ∷ units) x
object_found units true name behind x is at e =
    let same = some_is (object name, behind) x e in
    subst (IsAtFront (76 ∷ units)) same (record { form = is; parts = object_parts name behind units (parted 59 units name behind at).whole })
object_found units false name behind x is at e = absurd cc

object_from : (units : List ℕ) (o : Option (List ℕ × List ℕ)) (x : FieldType × List ℕ) → parted_at 59 units ≡ o
    → option_and_then (λ p. cond (is_class_name p.0) (Some (object p.0, p.1)) None) o ≡ Some x → IsAtFront (76 ∷ units) x
object_from units None x at e = absurd cc
object_from units (Some p) x at e = object_found units (is_class_name p.0) p.0 p.1 x refl at e

element_from : (first : ℕ) (units : List ℕ) (b : Bool) (x : FieldType × List ℕ) → eqb first 76 ≡ b → cond b (object_at units) (option_map (λ b. (base b, units)) (base_of first)) ≡ Some x → IsAtFront (first ∷ units) x
element_from first units true x is e = let same = is_letter first 76 is in subst (λ (n : ℕ). IsAtFront (n ∷ units) x) same (object_from units _ x refl e)
element_from first units false x is e = base_takes first units _ x refl e

element_takes : (first : ℕ) (units : List ℕ) (x : FieldType × List ℕ) → element_at first units ≡ Some x → IsAtFront (first ∷ units) x
element_takes first units x e = element_from first units (eqb first 76) x refl e

-- ---- arrays

abbrev as_array : FieldType × List ℕ → FieldType × List ℕ
as_array x = (array x.0, x.1)

array_from : (units : List ℕ) (o : Option (FieldType × List ℕ)) (x : FieldType × List ℕ) → option_map as_array o ≡ Some x
    → ((y : FieldType × List ℕ) → o ≡ Some y → IsAtFront units y) → IsAtFront (91 ∷ units) x
array_from units None x e ih = absurd cc
array_from units (Some y) x e ih =
    let h = ih y refl in
    subst (IsAtFront (91 ∷ units)) (some_is (as_array y) x e) (record { form = h.form; parts = ap (λ (t : List ℕ). 91 ∷ t) h.parts })

type_from : (first : ℕ) (units : List ℕ) (b : Bool) (x : FieldType × List ℕ) → eqb first 91 ≡ b → cond b (option_map as_array (field_type_at units)) (element_at first units) ≡ Some x
    → ((y : FieldType × List ℕ) → field_type_at units ≡ Some y → IsAtFront units y) → IsAtFront (first ∷ units) x
type_from first units true x is e ih = subst (λ (n : ℕ). IsAtFront (n ∷ units) x) (is_letter first 91 is) (array_from units _ x e ih)
type_from first units false x is e ih = element_takes first units x e

pub type_takes : (units : List ℕ) (x : FieldType × List ℕ) → field_type_at units ≡ Some x → IsAtFront units x
type_takes [] x e = absurd (nothing_read x e)
type_takes (first ∷ units) x e = type_from first units (eqb first 91) x refl e (type_takes units)

-- ---- the kind of an array is its text

text_of : (t rest units : List ℕ) → t ++ rest ≡ units → take (length units - length rest) units ≡ t
text_of t rest units e =
    let sum : length units ≡ length t + length rest = ap (λ (l : List ℕ). length l) (sym e) ∙ length-append t rest in
    let n : length units - length rest ≡ length t = omega (arith, sum) in
    rw (n, sym e) (take_at t rest (length t) refl)

array_kind : (units : List ℕ) (x : FieldType × List ℕ) → IsAtFront units x → as_kind (as_array x) ≡ wrapped (91 ∷ units) (as_kind x)
array_kind units x at =
    let front : field_text (array x.0) ++ x.1 ≡ 91 ∷ units = ap (λ (t : List ℕ). 91 ∷ t) at.parts in
    ap (λ (t : List ℕ). (option_map (λ k. kind.Ref t) (kind_of x.0), x.1)) (sym (text_of (field_text (array x.0)) x.1 (91 ∷ units) front))

array_kinds : (units : List ℕ) (o : Option (FieldType × List ℕ)) → field_type_at units ≡ o → option_map as_kind (option_map as_array o) ≡ option_map (wrapped (91 ∷ units)) (option_map as_kind o)
array_kinds units None is = refl
array_kinds units (Some x) is = ap Some (array_kind units x (type_takes units x is))

pub kind_at-array : (units : List ℕ) → kind_at (91 ∷ units) ≡ option_map (wrapped (91 ∷ units)) (kind_at units)
kind_at-array units = array_kinds units (field_type_at units) refl

twice_kind : (desc inner : List ℕ) (k : Option Kind) (rest : List ℕ) → wrapped desc (wrapped inner (k, rest)) ≡ wrapped desc (k, rest)
twice_kind desc inner None rest = refl
twice_kind desc inner (Some k) rest = refl

twice : (desc inner : List ℕ) (o : Option (Option Kind × List ℕ)) → option_map (wrapped desc) (option_map (wrapped inner) o) ≡ option_map (wrapped desc) o
twice desc inner None = refl
twice desc inner (Some x) = ap Some (twice_kind desc inner x.0 x.1)

pub kind_at-goes_on : (desc units : List ℕ) → kind_at desc ≡ option_map (wrapped desc) (kind_at (91 ∷ units)) → kind_at desc ≡ option_map (wrapped desc) (kind_at units)
kind_at-goes_on desc units e = e ∙ ap (option_map (wrapped desc)) (kind_at-array units) ∙ twice desc (91 ∷ units) (kind_at units)

longer : (desc units : List ℕ) → desc ≡ 91 ∷ units → length units < length desc
longer desc units e = let sum : length desc ≡ suc (length units) = ap (λ (l : List ℕ). length l) e in omega (arith, sum)

pub starts : (desc units : List ℕ) → desc ≡ 91 ∷ units → (kind_at desc ≡ option_map (wrapped desc) (kind_at units)) × (length units < length desc)
starts desc units e = (subst (λ (d : List ℕ). kind_at d ≡ option_map (wrapped d) (kind_at units)) (sym e) (kind_at-array units), longer desc units e)

-- ---- what is spelled is read again

base_again : (b : BaseType) (rest : List ℕ) → field_type_at (field_text (base b) ++ rest) ≡ Some (base b, rest)
base_again byte rest = refl
base_again char rest = refl
base_again double rest = refl
base_again float rest = refl
base_again int rest = refl
base_again long rest = refl
base_again short rest = refl
base_again boolean rest = refl

abbrev object_in : Option (List ℕ × List ℕ) → Option (FieldType × List ℕ)
object_in o = option_and_then (λ p. cond (is_class_name p.0) (Some (object p.0, p.1)) None) o

object_again : (name rest : List ℕ) → is_class_name name ≡ true → field_type_at (field_text (object name) ++ rest) ≡ Some (object name, rest)
object_again name rest form =
    let whole : (name ++ 59 ∷ []) ++ rest ≡ name ++ 59 ∷ rest = append_assoc name (59 ∷ []) rest in
    ap (λ (t : List ℕ). object_in (parted_at 59 t)) whole ∙ ap object_in (parted_again 59 name rest (class_name_free name form)) ∙ rw form refl

pub type_again : (t : FieldType) (rest : List ℕ) → IsFieldType t → field_type_at (field_text t ++ rest) ≡ Some (t, rest)
type_again (base b) rest form = base_again b rest
type_again (object name) rest form = object_again name rest form
type_again (array t) rest form = ap (option_map as_array) (type_again t rest form)

-- ---- the whole text

abbrev whole_type : Option (FieldType × List ℕ) → Option FieldType
whole_type o = option_and_then (λ x. cond (eqb (length x.1) 0) (Some x.0) None) o

type_is : (s t : FieldType) → Some s ≡ Some t → s ≡ t
type_is s t e = cc

whole_by : (desc : List ℕ) (x : FieldType × List ℕ) (b : Bool) (t : FieldType) → field_type_at desc ≡ Some x → eqb (length x.1) 0 ≡ b → cond b (Some x.0) None ≡ Some t → IsFieldDescriptor desc t
whole_by desc x true t at is e =
    let h = type_takes desc x at in
    let none : x.1 ≡ [] = nil_from_length x.1 (eqb-true _ _ is) in
    subst (IsFieldDescriptor desc) (type_is x.0 t e) (record { form = h.form; text = sym h.parts ∙ ap (λ (r : List ℕ). field_text x.0 ++ r) none ∙ append-nil (field_text x.0) })
whole_by desc x false t at is e = absurd cc

whole_from : (desc : List ℕ) (o : Option (FieldType × List ℕ)) (t : FieldType) → field_type_at desc ≡ o → whole_type o ≡ Some t → IsFieldDescriptor desc t
whole_from desc None t at e = absurd cc
whole_from desc (Some x) t at e = whole_by desc x (eqb (length x.1) 0) t at refl e

pub field_takes : (desc : List ℕ) (t : FieldType) → field_type_of desc ≡ Some t → IsFieldDescriptor desc t
field_takes desc t e = whole_from desc (field_type_at desc) t refl e

pub field_again : (desc : List ℕ) (t : FieldType) → IsFieldDescriptor desc t → field_type_of desc ≡ Some t
field_again desc t h = ap whole_type (ap field_type_at (h.text ∙ sym (append-nil (field_text t))) ∙ type_again t [] h.form)
