-- The same of a whole text as a function of its bytes.
use Rattle.std.proofs.Common.{◌≡◌, ℕ, zero, suc, ◌≤◌, Bool, true, false, cond, eqb, List, [], ◌∷◌, ◌++◌, length, Option, Some, None, refl, sym, ap, subst, ◌∙◌, arith}
use Rattle.std.specs.Prelude.{nat_lt, ◌≢◌}
use Rattle.std.specs.Option.{option_map}
use Rattle.std.proofs.lemmas.Bool.{eqb-true}
use Rattle.std.proofs.lemmas.List.{append-nil, nil_from_length}
use Rattle.std.proofs.lemmas.List.Concat.{flat_map-cons}
use Rattle.std.proofs.Common.{length-append}
use Rattle.class_model.specs.Text.{unit_bytes, text, IsUnits, is_single, unit_at, units_within, units_of}
use Rattle.class_model.proofs.TextLaws.{nothing_found, unit_takes, unit_again, is_bad}

pick_list : (P : List ℕ → Type 0) (b : Bool) (xs ys : List ℕ) → P xs → P ys → P (cond b xs ys)
pick_list P true xs ys p q = p
pick_list P false xs ys p q = q

unit_length : (u : ℕ) → 1 ≤ length (unit_bytes u)
unit_length u = pick_list (λ l. 1 ≤ length l) (is_single u) _ _ (omega arith) (pick_list (λ l. 1 ≤ length l) (nat_lt u 0x800) _ _ (omega arith) (omega arith))

abbrev with_unit : ℕ → Option (List ℕ) → Option (List ℕ)
with_unit u others = option_map (λ units. u ∷ units) others

within_step : (turns : ℕ) (bytes : List ℕ) (x : ℕ × List ℕ) → unit_at bytes ≡ Some x → units_within (suc turns) bytes ≡ with_unit x.0 (units_within turns x.1)
unfolding units_within
within_step turns [] x e = absurd (nothing_found x e)
within_step turns (b ∷ bs) x e = rw e refl

within_stop : (turns : ℕ) (bytes : List ℕ) → bytes ≢ [] → unit_at bytes ≡ None → units_within (suc turns) bytes ≡ None
unfolding units_within
within_stop turns [] more e = absurd (more refl)
within_stop turns (b ∷ bs) more e = rw e refl

within_none : (turns : ℕ) → units_within turns [] ≡ Some []
unfolding units_within
within_none turns = refl

within_zero : (b : ℕ) (bs : List ℕ) → units_within zero (b ∷ bs) ≡ None
unfolding units_within
within_zero b bs = refl

within_text : (turns : ℕ) (name : List ℕ) → length (text name) ≤ turns → IsUnits name → units_within turns (text name) ≡ Some name
within_text turns [] le h = within_none turns
within_text zero (u ∷ us) le h = let long = unit_length u in let sum = length-append (unit_bytes u) (text us) in absurd (omega (arith, le, long, sum))
within_text (suc turns) (u ∷ us) le h =
    let long = unit_length u in
    let sum = length-append (unit_bytes u) (text us) in
    within_step turns (text (u ∷ us)) (u, text us) (unit_again u (text us) h.0) ∙ ap (with_unit u) (within_text turns us (omega (arith, le, long, sum)) h.1)

-- a text is read as what it spells
pub units_of-text : (name : List ℕ) → IsUnits name → units_of (text name) ≡ Some name
units_of-text name h = within_text (length (text name)) name (omega arith) h

-- what is read spells its bytes
abbrev IsRead : List ℕ → List ℕ → Type 0
IsRead bytes name = IsUnits name × (text name ≡ bytes)

read_on : (bytes : List ℕ) (x : ℕ × List ℕ) (others : Option (List ℕ)) (name : List ℕ) → unit_at bytes ≡ Some x → with_unit x.0 others ≡ Some name
    → ((us : List ℕ) → others ≡ Some us → IsRead x.1 us) → IsRead bytes name
read_on bytes x None name at e ih = absurd cc
read_on bytes x (Some us) name at e ih =
    let t = unit_takes bytes x at in
    let h = ih us refl in
    let same : x.0 ∷ us ≡ name = cc in
    subst (IsRead bytes) same ((t.fits, h.0), flat_map-cons unit_bytes x.0 us ∙ ap (λ (rest : List ℕ). unit_bytes x.0 ++ rest) h.1 ∙ t.parts)

read_from : (turns : ℕ) (bytes : List ℕ) (first : Option (ℕ × List ℕ)) (name : List ℕ) → bytes ≢ [] → unit_at bytes ≡ first → units_within (suc turns) bytes ≡ Some name
    → ((rest : List ℕ) (us : List ℕ) → units_within turns rest ≡ Some us → IsRead rest us) → IsRead bytes name
read_from turns bytes None name more at e ih = let stop = within_stop turns bytes more at in absurd cc
read_from turns bytes (Some x) name more at e ih = read_on bytes x (units_within turns x.1) name at (sym (within_step turns bytes x at) ∙ e) (ih x.1)

cons_more : (b : ℕ) (bs : List ℕ) → b ∷ bs ≢ []
cons_more b bs e = absurd cc

read_nothing : (name : List ℕ) → Some [] ≡ Some name → IsRead [] name
read_nothing name e = let same : [] ≡ name = cc in subst (IsRead []) same (tt, refl)

within_takes : (turns : ℕ) (bytes name : List ℕ) → units_within turns bytes ≡ Some name → IsRead bytes name
within_takes turns [] name e = read_nothing name (sym (within_none turns) ∙ e)
within_takes zero (b ∷ bs) name e = let stop = within_zero b bs in absurd cc
within_takes (suc turns) (b ∷ bs) name e = read_from turns (b ∷ bs) (unit_at (b ∷ bs)) name (cons_more b bs) refl e (within_takes turns)

pub units_of-takes : (bytes name : List ℕ) → units_of bytes ≡ Some name → IsUnits name × (text name ≡ bytes)
units_of-takes bytes name e = within_takes (length bytes) bytes name e

none_of : (o : Option (List ℕ)) → ((x : List ℕ) → o ≡ Some x → ⊥) → o ≡ None
none_of None never = refl
none_of (Some x) never = absurd (never x refl)

pub units_of-bad : (name rest bytes : List ℕ) → eqb (length rest) 0 ≡ false → unit_at rest ≡ None → text name ++ rest ≡ bytes → IsUnits name → units_of bytes ≡ None
units_of-bad name rest bytes test bad so_far named =
    none_of (units_of bytes) (λ other e. let r = units_of-takes bytes other e in is_bad name rest bytes test bad so_far named other r.0 (sym r.1))

pub units_of-whole : (name rest bytes : List ℕ) → eqb (length rest) 0 ≡ true → text name ++ rest ≡ bytes → IsUnits name → units_of bytes ≡ Some name
units_of-whole name rest bytes test so_far named =
    let empty : rest ≡ [] = nil_from_length rest (eqb-true _ _ test) in
    ap units_of (sym so_far ∙ ap (λ (r : List ℕ). text name ++ r) empty ∙ append-nil (text name)) ∙ units_of-text name named
