-- The class behind a descriptor.
use Rattle.std.proofs.Common.{◌≡◌, ◌∙◌, sym, ap, refl, arith, ℕ, Bool, true, false, nat_eq, [], ◌∷◌}
use Rattle.std.specs.Prelude.{◌||◌, if◌then◌else◌}
use Rattle.std.proofs.lemmas.Bool.Decides.{nat_tests}
use Rattle.program_rules.specs.Names.{Name, same, is_array_name, class_behind, object_name, element_of, element_class, without_first, without_last}
use Rattle.program_rules.specs.Kinds.{Kind, OfBoolean, OfByte, OfChar, OfShort, OfInt, OfLong, OfReference, kind_in, component_kind, class_of_kind}
use Rattle.jvm_type_rows.proofs.Described.{same_is}
use Rattle.class_order.proofs.Within.{same_itself}
use Rattle.jvm_array_rows.specs.Descriptors.{is_letter, IsBehind}

abbrev kind_by : Bool → Bool → Bool → Bool → Bool → Bool → Kind → Kind
kind_by a b c d e f k =
    if a then OfBoolean else if b then OfByte else if c then OfChar else if d then OfShort
    else if e then OfInt else if f then OfLong else k

letter_by : (a b c d e f : Bool) (k : Kind) → (a || (b || (c || (d || (e || f))))) ≡ true → class_of_kind (kind_by a b c d e f k) ≡ object_name
letter_by true b c d e f k h = refl
letter_by false true c d e f k h = refl
letter_by false false true d e f k h = refl
letter_by false false false true e f k h = refl
letter_by false false false false true f k h = refl
letter_by false false false false false true k h = refl
letter_by false false false false false false k h = absurd cc

no_letter_by : (a b c d e f : Bool) (k : Kind) → (a || (b || (c || (d || (e || f))))) ≡ false → kind_by a b c d e f k ≡ k
no_letter_by true b c d e f k h = absurd cc
no_letter_by false true c d e f k h = absurd cc
no_letter_by false false true d e f k h = absurd cc
no_letter_by false false false true e f k h = absurd cc
no_letter_by false false false false true f k h = absurd cc
no_letter_by false false false false false true k h = absurd cc
no_letter_by false false false false false false k h = refl

abbrev reference_by : Bool → ℕ → Name → Kind
reference_by b c cs = if b then OfReference (without_last cs) else OfReference (c ∷ cs)

pub letter_class : (c : ℕ) (cs : Name) → is_letter c ≡ true → class_of_kind (kind_in (c ∷ cs)) ≡ object_name
letter_class c cs h = letter_by (nat_eq c 90) (nat_eq c 66) (nat_eq c 67) (nat_eq c 83) (nat_eq c 73) (nat_eq c 74) (reference_by (nat_eq c 76) c cs) h

no_letter : (c : ℕ) (cs : Name) → is_letter c ≡ false → kind_in (c ∷ cs) ≡ reference_by (nat_eq c 76) c cs
no_letter c cs h = no_letter_by (nat_eq c 90) (nat_eq c 66) (nat_eq c 67) (nat_eq c 83) (nat_eq c 73) (nat_eq c 74) (reference_by (nat_eq c 76) c cs) h

pub described_letter : (class : Name) (c : ℕ) (cs : Name) → is_letter c ≡ true → same class (class_of_kind (kind_in (c ∷ cs))) ≡ same class object_name
described_letter class c cs h = ap (same class) (letter_class c cs h)

pub described_class : (class : Name) (c : ℕ) (cs : Name) → is_letter c ≡ false → nat_eq c 76 ≡ true → same class (class_of_kind (kind_in (c ∷ cs))) ≡ same class (class_behind (without_last cs))
described_class class c cs h e = ap (λ k. same class (class_of_kind k)) (no_letter c cs h ∙ ap (λ b. reference_by b c cs) e)

pub described_other : (class : Name) (c : ℕ) (cs : Name) → is_letter c ≡ false → nat_eq c 76 ≡ false → same class (class_of_kind (kind_in (c ∷ cs))) ≡ same class (class_behind (c ∷ cs))
described_other class c cs h e = ap (λ k. same class (class_of_kind k)) (no_letter c cs h ∙ ap (λ b. reference_by b c cs) e)

-- ---- components

bracket_no_letter : (c : ℕ) → nat_eq c 91 ≡ true → is_letter c ≡ false
bracket_no_letter c e = grind (arith, nat_tests, e)

bracket_no_class : (c : ℕ) → nat_eq c 91 ≡ true → nat_eq c 76 ≡ false
bracket_no_class c e = grind (arith, nat_tests, e)

-- An array's name as a descriptor is of the class behind it.
array_described : (d : Name) → is_array_name d ≡ true → class_of_kind (kind_in d) ≡ class_behind d
array_described [] e = absurd cc
array_described (c ∷ cs) e = ap class_of_kind (no_letter c cs (bracket_no_letter c e) ∙ ap (λ b. reference_by b c cs) (bracket_no_class c e))

-- Behind two names, of which one is the other one's component, stands one class.
inner_behind : (c d : ℕ) (ds : Name) → nat_eq c 91 ≡ true → nat_eq d 91 ≡ true → class_behind (c ∷ d ∷ ds) ≡ class_behind (d ∷ ds)
inner_behind c d ds e f =
    ap (λ b. if b then element_class (element_of (c ∷ d ∷ ds)) else c ∷ d ∷ ds) e
    ∙ ap (λ b. element_class (if b then element_of (d ∷ ds) else c ∷ d ∷ ds)) e
    ∙ sym (ap (λ b. if b then element_class (element_of (d ∷ ds)) else d ∷ ds) f)

pub component_inner : (class name : Name) → is_array_name name ≡ true → is_array_name (without_first name) ≡ true → IsBehind class name → same class (class_of_kind (component_kind name)) ≡ true
component_inner class [] e f h = absurd cc
component_inner class (c ∷ []) e f h = absurd cc
component_inner class (c ∷ d ∷ ds) e f h =
    let is : class ≡ class_of_kind (kind_in (d ∷ ds)) = h e ∙ inner_behind c d ds e f ∙ sym (array_described (d ∷ ds) f) in
    ap (same class) (sym is) ∙ same_itself class

-- So does each level.
pub behind_inner : (class name : Name) → same class (class_of_kind (component_kind name)) ≡ true → IsBehind class (without_first name)
behind_inner class name h = λ e. same_is class (class_of_kind (component_kind name)) h ∙ array_described (without_first name) e
