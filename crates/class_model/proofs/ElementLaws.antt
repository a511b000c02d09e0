-- The own elements of an annotation, as a loop finds them.
use Rattle.std.proofs.Common.{◌≡◌, ℕ, zero, suc, ◌+◌, ◌-◌, ◌≤◌, ◌<◌, List, [], ◌∷◌, ◌++◌, length, drop, get_or, Option, Some, None, refl, sym, ap, ◌∙◌, append_assoc, arith, drop-cons}
use Rattle.std.proofs.lemmas.List.{append-nil}
use Rattle.std.proofs.Math.ListN.{drop_of_length-le}
use Rattle.class_model.specs.OwnElements.{opened_by, own_elements}
use Rattle.class_model.specs.declared.annotation.Token.{Token}
use Rattle.class_model.specs.declared.annotation.Token.TheVariants as token

abbrev Own : Type 0
Own = List (ℕ × Token)

-- the token at a loop's place, and those behind it
cut : (ts : List Token) (i : ℕ) (d : Token) → i < length ts → drop i ts ≡ get_or ts i d ∷ drop (i + 1) ts
cut ts i d lt = let next : suc i ≡ i + 1 = omega arith in drop-cons ts i d lt ∙ ap (λ (n : ℕ). get_or ts i d ∷ drop n ts) next

-- a value, whose name was read before
value_turn : (n due : ℕ) (t : Token) (ts : List Token) → own_elements (Some n) due (t ∷ ts) ≡ (n, t) ∷ own_elements None (opened_by t) ts
unfolding own_elements
value_turn n due t ts = refl

pub value_step : (own new : Own) (name : Option ℕ) (n due after i : ℕ) (ts : List Token) (d : Token) (total : Own) → i < length ts → name ≡ Some n → new ≡ own ++ (n, get_or ts i d) ∷ [] → after ≡ opened_by (get_or ts i d)
    → own ++ own_elements name due (drop i ts) ≡ total → new ++ own_elements None after (drop (i + 1) ts) ≡ total
value_step own new name n due after i ts d total lt is made opened so_far =
    let t = get_or ts i d in
    let rest = own_elements None (opened_by t) (drop (i + 1) ts) in
    let turn : own_elements name due (drop i ts) ≡ (n, t) ∷ rest = ap (λ (o : Option ℕ). own_elements o due (drop i ts)) is ∙ ap (own_elements (Some n) due) (cut ts i d lt) ∙ value_turn n due t (drop (i + 1) ts) in
    ap (λ (z : Own). z ++ own_elements None after (drop (i + 1) ts)) made ∙ append_assoc own ((n, t) ∷ []) (own_elements None after (drop (i + 1) ts)) ∙ ap (λ (k : ℕ). own ++ (n, t) ∷ own_elements None k (drop (i + 1) ts)) opened ∙ ap (λ (z : Own). own ++ z) (sym turn) ∙ so_far

-- a token of an element that was told before
later_turn : (due : ℕ) (t : Token) (ts : List Token) → own_elements None (suc due) (t ∷ ts) ≡ own_elements None (due + opened_by t) ts
unfolding own_elements
later_turn due t ts = refl

pub later_step : (own new : Own) (name next : Option ℕ) (due after opened i : ℕ) (ts : List Token) (d : Token) (total : Own) → i < length ts → name ≡ None → 0 < due → new ≡ own → next ≡ name → opened ≡ opened_by (get_or ts i d) → after ≡ due - 1 + opened
    → own ++ own_elements name due (drop i ts) ≡ total → new ++ own_elements next after (drop (i + 1) ts) ≡ total
later_step own new name next due after opened i ts d total lt is some same kept by counted so_far =
    let t = get_or ts i d in
    let less = due - 1 in
    let k : due ≡ suc less = omega arith in
    let turn : own_elements name due (drop i ts) ≡ own_elements None (less + opened_by t) (drop (i + 1) ts) = ap (λ (o : Option ℕ). own_elements o due (drop i ts)) is ∙ ap (λ (n : ℕ). own_elements None n (drop i ts)) k ∙ ap (own_elements None (suc less)) (cut ts i d lt) ∙ later_turn less t (drop (i + 1) ts) in
    let there : own_elements next after (drop (i + 1) ts) ≡ own_elements None (less + opened_by t) (drop (i + 1) ts) = ap (λ (o : Option ℕ). own_elements o after (drop (i + 1) ts)) (kept ∙ is) ∙ ap (λ (n : ℕ). own_elements None n (drop (i + 1) ts)) (counted ∙ ap (λ (n : ℕ). less + n) by) in
    ap (λ (z : Own). z ++ own_elements next after (drop (i + 1) ts)) same ∙ ap (λ (z : Own). own ++ z) (there ∙ sym turn) ∙ so_far

-- the name of the next element
name_turn : (n : ℕ) (ts : List Token) → own_elements None 0 (token.Name n ∷ ts) ≡ own_elements (Some n) 0 ts
unfolding own_elements
name_turn n ts = refl

pub name_step : (own new : Own) (name next : Option ℕ) (n due after i : ℕ) (ts : List Token) (d : Token) (total : Own) → i < length ts → name ≡ None → due ≤ 0 → get_or ts i d ≡ token.Name n → new ≡ own → next ≡ Some n → after ≡ due
    → own ++ own_elements name due (drop i ts) ≡ total → new ++ own_elements next after (drop (i + 1) ts) ≡ total
name_step own new name next n due after i ts d total lt is none named same kept counted so_far =
    let k : due ≡ 0 = omega (arith, none) in
    let behind = drop (i + 1) ts in
    let turn : own_elements name due (drop i ts) ≡ own_elements (Some n) 0 behind = ap (λ (o : Option ℕ). own_elements o due (drop i ts)) is ∙ ap (λ (n : ℕ). own_elements None n (drop i ts)) k ∙ ap (own_elements None 0) (cut ts i d lt ∙ ap (λ (t : Token). t ∷ behind) named) ∙ name_turn n behind in
    let there : own_elements next after behind ≡ own_elements (Some n) 0 behind = ap (λ (o : Option ℕ). own_elements o after behind) kept ∙ ap (λ (m : ℕ). own_elements (Some n) m behind) (counted ∙ k) in
    ap (λ (z : Own). z ++ own_elements next after behind) same ∙ ap (λ (z : Own). own ++ z) (there ∙ sym turn) ∙ so_far

-- a token that is no name where one is due
other_turn : (t : Token) (ts : List Token) → ((n : ℕ) → t ≡ token.Name n → ⊥) → own_elements None 0 (t ∷ ts) ≡ []
unfolding own_elements
other_turn (token.Name n) ts differs = absurd (differs n refl)
other_turn (token.Plain tag index) ts differs = refl
other_turn (token.Enum kind name) ts differs = refl
other_turn (token.Class index) ts differs = refl
other_turn (token.Inner kind count) ts differs = refl
other_turn (token.Many count) ts differs = refl

pub other_ends : (own : Own) (name : Option ℕ) (due i : ℕ) (ts : List Token) (d : Token) (total : Own) → i < length ts → name ≡ None → due ≤ 0 → ((n : ℕ) → get_or ts i d ≡ token.Name n → ⊥) → own ++ own_elements name due (drop i ts) ≡ total → own ≡ total
other_ends own name due i ts d total lt is none differs so_far =
    let k : due ≡ 0 = omega (arith, none) in
    let turn : own_elements name due (drop i ts) ≡ [] = ap (λ (o : Option ℕ). own_elements o due (drop i ts)) is ∙ ap (λ (n : ℕ). own_elements None n (drop i ts)) k ∙ ap (own_elements None 0) (cut ts i d lt) ∙ other_turn (get_or ts i d) (drop (i + 1) ts) differs in
    sym (append-nil own) ∙ ap (λ (z : Own). own ++ z) (sym turn) ∙ so_far

nothing_turn : (name : Option ℕ) (due : ℕ) → own_elements name due [] ≡ []
unfolding own_elements
nothing_turn None zero = refl
nothing_turn None (suc due) = refl
nothing_turn (Some n) due = refl

-- no token is left
pub all_told : (own : Own) (name : Option ℕ) (due i : ℕ) (ts : List Token) (total : Own) → length ts ≤ i → own ++ own_elements name due (drop i ts) ≡ total → own ≡ total
all_told own name due i ts total le so_far =
    let none : drop i ts ≡ [] = drop_of_length-le ts le in
    sym (append-nil own) ∙ ap (λ (z : Own). own ++ z) (sym (ap (own_elements name due) none ∙ nothing_turn name due)) ∙ so_far
