-- Texts that fit their length, and units in pairs.
use Rattle.std.proofs.Common.{◌≡◌, ◌∙◌, ℕ, suc, ◌+◌, ◌*◌, ◌/◌, ◌%◌, ◌<◌, ◌≤◌, ◌^◌, Bool, true, false, ◌&&◌, List, [], ◌∷◌, length, drop, take, get_or, refl, sym, ap, subst, arith, length-append}
use Rattle.std.specs.Prelude.{All, IsTrue, if◌then◌else◌, nat_le, nat_lt}
use Rattle.std.proofs.lemmas.Bool.{and_right, leb-true, ltb-true}
use Rattle.std.proofs.lemmas.List.{drop_more, take_all}
use Rattle.std.proofs.lemmas.List.Elements.{All-more}
use Rattle.class_model.specs.Text.{IsUnits, is_single, text, unit_bytes}
use Rattle.history_rules.specs.Reading.{is_high, is_low, is_paired_from}

-- ---- lengths

one_of : (a b : Bool) (xs ys zs : List ℕ) → length xs ≤ 3 → length ys ≤ 3 → length zs ≤ 3 → length (if a then xs else if b then ys else zs) ≤ 3
one_of true b xs ys zs p q r = p
one_of false true xs ys zs p q r = q
one_of false false xs ys zs p q r = r

unit_most : (u : ℕ) → length (unit_bytes u) ≤ 3
unit_most u =
    let one : 1 ≤ 3 = omega arith in
    let two : 2 ≤ 3 = omega arith in
    let three : 3 ≤ 3 = omega arith in
    one_of (is_single u) (nat_lt u 0x800) (u ∷ []) ((0xC0 + u / 0x40) ∷ (0x80 + u % 0x40) ∷ []) ((0xE0 + u / 0x1000) ∷ (0x80 + u / 0x40 % 0x40) ∷ (0x80 + u % 0x40) ∷ []) one two three

pub text_most : (us : List ℕ) → length (text us) ≤ 3 * length us
text_most [] = omega arith
text_most (u ∷ us) =
    let all = length-append (unit_bytes u) (text us) in
    let first = unit_most u in
    let rest = text_most us in
    omega (arith, all, first, rest)

pub text_more : (us : List ℕ) (i : ℕ) → i < length us → length (text (drop i us)) ≡ length (unit_bytes (get_or us i 0)) + length (text (drop (i + 1) us))
text_more us i lt = ap (λ ws. length (text ws)) (drop_more us i 0 lt) ∙ length-append (unit_bytes (get_or us i 0)) (text (drop (i + 1) us))

pub units_are : (us : List ℕ) → ((i : ℕ) → get_or us i 0 < 2 ^ 16) → IsUnits us
units_are [] h = tt
units_are (u ∷ us) h = (h 0, units_are us (λ i. h (suc i)))

pub text_fits : (us : List ℕ) → length us ≤ 21845 → length (text us) < 2 ^ 16
text_fits us le = let most = text_most us in omega (arith, most, le)

-- ---- surrogates

and_both : (a b : Bool) → (a && b) ≡ true → (a ≡ true) × (b ≡ true)
and_both true b h = (refl, h)
and_both false b h = absurd cc

low_not_high : (u : ℕ) → is_low u ≡ true → is_high u ≡ false
low_not_high u h = and_right (nat_le 0xD800 u) (nat_lt u 0xDC00) (by (nat_lt u 0xDC00) refl)
  where
    by : (b : Bool) → b ≡ nat_lt u 0xDC00 → nat_lt u 0xDC00 ≡ false
    by true e =
        let less : u < 0xDC00 = ltb-true u 0xDC00 (sym e) in
        let from : 0xDC00 ≤ u = leb-true 0xDC00 u (and_both (nat_le 0xDC00 u) (nat_lt u 0xE000) h).0 in
        absurd (omega (arith, less, from))
    by false e = sym e

pub pair_more : (high : Bool) (u : ℕ) (us : List ℕ) → high ≡ is_low u → is_paired_from high (u ∷ us) ≡ is_paired_from (is_high u) us
pair_more high u us same = by high (is_low u) refl same
  where
    by : (h l : Bool) → l ≡ is_low u → h ≡ l → (if h then l && is_paired_from false us else if l then false else is_paired_from (is_high u) us) ≡ is_paired_from (is_high u) us
    by true true e f = ap (λ t. is_paired_from t us) (sym (low_not_high u (sym e)))
    by false false e f = refl
    by true false e f = absurd cc
    by false true e f = absurd cc

pub pair_not : (high : Bool) (u : ℕ) (us : List ℕ) → (high ≡ is_low u → ⊥) → is_paired_from high (u ∷ us) ≡ false
pair_not high u us apart = by high (is_low u) refl apart
  where
    by : (h l : Bool) → l ≡ is_low u → (h ≡ l → ⊥) → (if h then l && is_paired_from false us else if l then false else is_paired_from (is_high u) us) ≡ false
    by true true e f = absurd (f refl)
    by false false e f = absurd (f refl)
    by true false e f = refl
    by false true e f = refl

-- ---- each of a list

pub not_all : {X : Type 0} (P : X → Type 0) (xs : List X) (i : ℕ) (x : X) (b : Bool) → i < length xs → x ≡ get_or xs i x → (P x → b ≡ true) → b ≡ false → (IsTrue false → All P xs) × (All P xs → IsTrue false)
not_all {X} P xs i x b lt is to other = (λ (e : false ≡ true). absurd cc, λ all. sym other ∙ to (subst P (sym is) (all i x lt)))

pub all_more : {X : Type 0} (P : X → Type 0) (xs : List X) (i : ℕ) (x : X) → i < length xs → x ≡ get_or xs i x → All P (take i xs) → P x → All P (take (i + 1) xs)
all_more {X} P xs i x lt is all one = All-more P xs i x lt all (subst P is one)

pub all_taken : {X : Type 0} (P : X → Type 0) (xs : List X) (i : ℕ) → length xs ≤ i → All P (take i xs) → (IsTrue true → All P xs) × (All P xs → IsTrue true)
all_taken {X} P xs i le all = (λ e. subst (All P) (take_all i xs le) all, λ a. refl)

pub all_of : {X : Type 0} (P : X → Type 0) (xs : List X) (i : ℕ) → length xs ≤ i → All P (take i xs) → All P xs
all_of {X} P xs i le all = subst (All P) (take_all i xs le) all
