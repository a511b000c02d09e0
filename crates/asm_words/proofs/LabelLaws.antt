-- The first label of a name stands at its place, and one more label keeps the places right.
use Rattle.std.proofs.Common.{◌≡◌, ◌∙◌, sym, refl, ap, ℕ, Bool, true, false, List, [], ◌∷◌, ◌++◌, length, Option, Some, None, slice_get, ltb, ltb-false, subst}
use Rattle.std.specs.Prelude.{◌≤◌, position, cond, option_and_then, is_some}
use Rattle.std.specs.List.{find, position_or_len}
use Rattle.std.specs.BTreeMap.{BTreeMap, get, is_at, Updates}
use Rattle.std.specs.Cmp.Lexicographic.{same_text, texts_ties}
use Rattle.std.proofs.lemmas.List.Folds.{find_at}
use Rattle.std.proofs.lemmas.Option.{slice_get_past}
use Rattle.asm_words.specs.declared.known_labels.Label.{Label}
use Rattle.asm_words.specs.Words.{says}
use Rattle.asm_words.specs.Labels.{first_of}
use Rattle.asm_words.specs.LabelPlaces.{has_name, by_units, HasFirstPlaces}
use Rattle.asm_words.proofs.Positions.{or_behind, none_behind, pushed}

-- ---- the first label of a name

found : (name : List ℕ) (labels : List Label) → find (has_name name) labels ≡ first_of labels name
found name [] = refl
found name (label ∷ labels) = ap (cond (says label.name name) (Some label)) (found name labels)

at_case : (name : List ℕ) (labels : List Label) (b : Bool) → ltb (position_or_len (has_name name) labels) (length labels) ≡ b → option_and_then (slice_get labels) (cond b (Some (position_or_len (has_name name) labels)) None) ≡ find (has_name name) labels
at_case name labels true e = sym (find_at (has_name name) labels)
at_case name labels false e =
    let past : length labels ≤ position_or_len (has_name name) labels = ltb-false _ _ e in
    sym (find_at (has_name name) labels ∙ slice_get_past labels (position_or_len (has_name name) labels) past)

pub first_at : (name : List ℕ) (labels : List Label) (place : Option ℕ) → position (has_name name) labels ≡ place → option_and_then (slice_get labels) place ≡ first_of labels name
first_at name labels place e =
    ap (option_and_then (slice_get labels)) (sym e)
    ∙ at_case name labels (ltb (position_or_len (has_name name) labels) (length labels)) refl
    ∙ found name labels

-- ---- one more label

some_stays : (o behind : Option ℕ) → is_some o ≡ true → o ≡ or_behind o behind
some_stays None behind e = absurd cc
some_stays (Some place) behind e = refl

stays_case : (places : BTreeMap (List ℕ) ℕ) (labels : List Label) (label : Label) (q : List ℕ) → HasFirstPlaces places labels → is_some (get by_units places label.name) ≡ true → (b : Bool) → says label.name q ≡ b → position (has_name q) labels ≡ or_behind (position (has_name q) labels) (cond b (Some (length labels)) None)
stays_case places labels label q has known true e =
    let one : label.name ≡ q = same_text label.name q (sym e) in
    some_stays (position (has_name q) labels) (Some (length labels)) (ap is_some (sym (has q)) ∙ ap (λ n. is_some (get by_units places n)) (sym one) ∙ known)
stays_case places labels label q has known false e = none_behind (position (has_name q) labels)

-- one more label of a name that has one
pub stays : (places : BTreeMap (List ℕ) ℕ) (labels : List Label) (label : Label) → HasFirstPlaces places labels → is_some (get by_units places label.name) ≡ true → HasFirstPlaces places (labels ++ label ∷ [])
stays places labels label has known q = has q ∙ stays_case places labels label q has known (says label.name q) refl ∙ sym (pushed (has_name q) labels label)

placed_case : (old : BTreeMap (List ℕ) ℕ) (labels : List Label) (label : Label) (q : List ℕ) → HasFirstPlaces old labels → get by_units old label.name ≡ None → (b : Bool) → says label.name q ≡ b → cond b (Some (length labels)) (get by_units old q) ≡ or_behind (position (has_name q) labels) (cond b (Some (length labels)) None)
placed_case old labels label q has absent true e =
    let one : label.name ≡ q = same_text label.name q (sym e) in
    let none : position (has_name q) labels ≡ None = sym (has q) ∙ ap (get by_units old) (sym one) ∙ absent in
    sym (ap (λ o. or_behind o (Some (length labels))) none)
placed_case old labels label q has absent false e = has q ∙ none_behind (position (has_name q) labels)

-- the first label of a name, whose place is put under a copy of the name
pub placed : (old new : BTreeMap (List ℕ) ℕ) (labels : List Label) (label : Label) (name : List ℕ) (place : ℕ) → HasFirstPlaces old labels → get by_units old label.name ≡ None → name ≡ label.name → place ≡ length labels → Updates by_units old new name (Some place) → HasFirstPlaces new (labels ++ label ∷ [])
placed old new labels label name place has absent named at updates q =
    let here : Updates by_units old new label.name (Some (length labels)) = subst (λ n. Updates by_units old new n (Some (length labels))) named (subst (λ k. Updates by_units old new name (Some k)) at updates) in
    here.0 q ∙ ap (λ b. cond b (Some (length labels)) (get by_units old q)) (sym (texts_ties label.name q)) ∙ placed_case old labels label q has absent (says label.name q) refl ∙ sym (pushed (has_name q) labels label)
