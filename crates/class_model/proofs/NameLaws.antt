-- Surrogates without a partner, character by character, and the parts of a class's name.
use Rattle.std.proofs.Common.{◌≡◌, ℕ, Bool, true, false, cond, eqb, List, [], ◌∷◌, length, Option, Some, None, refl, sym, ap, ◌∙◌, arith}
use Rattle.std.specs.Prelude.{◌&&◌, ◌||◌, ◌==◌, not, nat_le, nat_lt}
use Rattle.std.proofs.lemmas.Bool.{eqb-true}
use Rattle.std.specs.Char.Utf16.{is_high_surrogate, is_low_surrogate, utf16_chars, has_unpaired_surrogate}
use Rattle.std.specs.List.{All, list_all, slice_split, onto_first}
use Rattle.std.proofs.lemmas.List.Elements.{All-nil, All-cons}
use Rattle.class_model.specs.Steps.{behind_char}
use Rattle.class_model.specs.Parting.{parted_at}
use Rattle.class_model.specs.DeclaredName.{is_reserved, is_field_name, is_class_name}
use Rattle.class_model.proofs.PartingLaws.{parts_go_on, parts_end}

abbrev is_surrogate : ℕ → Bool
is_surrogate u = nat_le 0xD800 u && nat_lt u 0xE000

abbrev is_pair : ℕ → ℕ → Bool
is_pair u v = is_high_surrogate u && is_low_surrogate v

abbrev behind_alone : Bool → List ℕ → Option (List ℕ)
behind_alone b rest = cond b None (Some rest)

-- ---- a character that goes on

last_goes_on : (u : ℕ) (rest : List ℕ) (b : Bool) → is_surrogate u ≡ b → behind_alone b [] ≡ Some rest → has_unpaired_surrogate (u ∷ []) ≡ has_unpaired_surrogate rest
unfolding utf16_chars
last_goes_on u rest true is e = absurd cc
last_goes_on u rest false is e = let same : [] ≡ rest = cc in rw (sym same, is) refl

alone_goes_on : (u v : ℕ) (us rest : List ℕ) (b : Bool) → is_pair u v ≡ false → is_surrogate u ≡ b → behind_alone b (v ∷ us) ≡ Some rest
    → has_unpaired_surrogate (u ∷ v ∷ us) ≡ has_unpaired_surrogate rest
unfolding utf16_chars
alone_goes_on u v us rest true pair is e = absurd cc
alone_goes_on u v us rest false pair is e = let same : v ∷ us ≡ rest = cc in rw (pair, is) (ap has_unpaired_surrogate same)

pair_goes_on : (u v : ℕ) (us rest : List ℕ) (b : Bool) → is_pair u v ≡ b → cond b (Some us) (behind_alone (is_surrogate u) (v ∷ us)) ≡ Some rest
    → has_unpaired_surrogate (u ∷ v ∷ us) ≡ has_unpaired_surrogate rest
unfolding utf16_chars
pair_goes_on u v us rest true pair e = let same : us ≡ rest = cc in rw pair (ap has_unpaired_surrogate same)
pair_goes_on u v us rest false pair e = alone_goes_on u v us rest (is_surrogate u) pair refl e

pub goes_on : (name rest : List ℕ) → behind_char name ≡ Some rest → has_unpaired_surrogate name ≡ has_unpaired_surrogate rest
goes_on [] rest e = absurd cc
goes_on (u ∷ []) rest e = last_goes_on u rest (is_surrogate u) refl e
goes_on (u ∷ v ∷ us) rest e = pair_goes_on u v us rest (is_pair u v) refl e

-- ---- a surrogate alone

last_is_lone : (u : ℕ) (b : Bool) → is_surrogate u ≡ b → behind_alone b [] ≡ None → has_unpaired_surrogate (u ∷ []) ≡ true
unfolding utf16_chars
last_is_lone u true is e = rw is refl
last_is_lone u false is e = absurd cc

alone_is_lone : (u v : ℕ) (us : List ℕ) (b : Bool) → is_pair u v ≡ false → is_surrogate u ≡ b → behind_alone b (v ∷ us) ≡ None → has_unpaired_surrogate (u ∷ v ∷ us) ≡ true
unfolding utf16_chars
alone_is_lone u v us true pair is e = rw (pair, is) refl
alone_is_lone u v us false pair is e = absurd cc

pair_is_lone : (u v : ℕ) (us : List ℕ) (b : Bool) → is_pair u v ≡ b → cond b (Some us) (behind_alone (is_surrogate u) (v ∷ us)) ≡ None → has_unpaired_surrogate (u ∷ v ∷ us) ≡ true
pair_is_lone u v us true pair e = absurd cc
pair_is_lone u v us false pair e = alone_is_lone u v us (is_surrogate u) pair refl e

pub is_lone : (name : List ℕ) → eqb (length name) 0 ≡ false → behind_char name ≡ None → has_unpaired_surrogate name ≡ true
is_lone [] test e = absurd cc
is_lone (u ∷ []) test e = last_is_lone u (is_surrogate u) refl e
is_lone (u ∷ v ∷ us) test e = pair_is_lone u v us (is_pair u v) refl e

not_none : (u : ℕ) (us : List ℕ) → eqb (length (u ∷ us)) 0 ≡ true → ⊥
not_none u us test = let none : length (u ∷ us) ≡ 0 = eqb-true _ _ test in omega (arith, none)

pub has_none : (name : List ℕ) → eqb (length name) 0 ≡ true → has_unpaired_surrogate name ≡ false
unfolding utf16_chars
has_none [] test = refl
has_none (u ∷ us) test = absurd (not_none u us test)

-- ---- the parts of a class's name

pub part_fails : (name part behind : List ℕ) → parted_at 47 name ≡ Some (part, behind) → is_field_name part ≡ false → is_class_name name ≡ false
part_fails name part behind e bad = ap (list_all is_field_name) (parts_go_on 47 name part behind e) ∙ ap (λ b. b && list_all is_field_name (slice_split (λ u. eqb u 47) behind)) bad

pub part_passes : (name part behind : List ℕ) → parted_at 47 name ≡ Some (part, behind) → is_field_name part ≡ true → is_class_name name ≡ is_class_name behind
part_passes name part behind e good = ap (list_all is_field_name) (parts_go_on 47 name part behind e) ∙ ap (λ b. b && list_all is_field_name (slice_split (λ u. eqb u 47) behind)) good

and_nothing : (b : Bool) → b && true ≡ b
and_nothing true = refl
and_nothing false = refl

pub last_part : (name : List ℕ) → parted_at 47 name ≡ None → is_class_name name ≡ is_field_name name
last_part name e = ap (list_all is_field_name) (parts_end 47 name e) ∙ and_nothing (is_field_name name)

-- ---- no class's name has a semicolon

abbrev is_other : ℕ → Bool
is_other unit = not (unit == 59)

and_true : (a b : Bool) → a && b ≡ true → (a ≡ true) × (b ≡ true)
and_true true b e = (refl, e)
and_true false b e = absurd cc

list_all-mono : {X : Type 0} (p q : X → Bool) → ((x : X) → p x ≡ true → q x ≡ true) → (xs : List X) → list_all p xs ≡ true → list_all q xs ≡ true
list_all-mono p q h [] e = refl
list_all-mono p q h (x ∷ xs) e = let both = and_true (p x) (list_all p xs) e in rw (h x both.0, list_all-mono p q h xs both.1) refl

other_of : (a b c : Bool) → not (a || (b || c)) ≡ true → not b ≡ true
other_of true b c e = absurd cc
other_of false true c e = absurd cc
other_of false false c e = refl

field_part : (part : List ℕ) → is_field_name part ≡ true → list_all is_other part ≡ true
field_part part e =
    let units = (and_true _ _ (and_true _ _ e).1).1 in
    list_all-mono (λ u. not (is_reserved u)) is_other (λ u h. other_of (u == 46) (u == 59) (u == 91 || u == 47) h) part units

onto_first_other : (u : ℕ) (parts : List (List ℕ)) → list_all (list_all is_other) (onto_first u parts) ≡ true → (is_other u ≡ true) × (list_all (list_all is_other) parts ≡ true)
onto_first_other u [] e = ((and_true _ _ (and_true _ _ e).0).0, refl)
onto_first_other u (part ∷ parts) e =
    let both = and_true (is_other u && list_all is_other part) (list_all (list_all is_other) parts) e in
    let front = and_true (is_other u) (list_all is_other part) both.0 in
    (front.0, rw (front.1, both.1) refl)

slash_is_other : (u : ℕ) → eqb u 47 ≡ true → is_other u ≡ true
slash_is_other u e = let same = eqb-true u 47 e in rw same refl

parts_other_at : (u : ℕ) (us : List ℕ) (b : Bool) → eqb u 47 ≡ b
    → list_all (list_all is_other) (cond b ([] ∷ slice_split (λ v. eqb v 47) us) (onto_first u (slice_split (λ v. eqb v 47) us))) ≡ true
    → (list_all (list_all is_other) (slice_split (λ v. eqb v 47) us) ≡ true → list_all is_other us ≡ true) → list_all is_other (u ∷ us) ≡ true
parts_other_at u us true is e ih = rw (slash_is_other u is) (ih e)
parts_other_at u us false is e ih = let both = onto_first_other u (slice_split (λ v. eqb v 47) us) e in rw both.0 (ih both.1)

parts_other : (name : List ℕ) → list_all (list_all is_other) (slice_split (λ v. eqb v 47) name) ≡ true → list_all is_other name ≡ true
parts_other [] e = refl
parts_other (u ∷ us) e = parts_other_at u us (eqb u 47) refl e (parts_other us)

not_true : (b : Bool) → not b ≡ true → b ≡ false
not_true true e = absurd cc
not_true false e = refl

free_of : (name : List ℕ) → list_all is_other name ≡ true → All (λ other. eqb other 59 ≡ false) name
free_of [] e = All-nil (λ other. eqb other 59 ≡ false)
free_of (u ∷ us) e = let both = and_true (is_other u) (list_all is_other us) e in All-cons (λ other. eqb other 59 ≡ false) u us (not_true (eqb u 59) both.0) (free_of us both.1)

pub class_name_free : (name : List ℕ) → is_class_name name ≡ true → All (λ other. eqb other 59 ≡ false) name
class_name_free name e = free_of name (parts_other name (list_all-mono is_field_name (list_all is_other) field_part (slice_split (λ v. eqb v 47) name) e))
