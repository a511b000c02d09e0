-- A unit that is read is spelled so, and is read from its spelling.
use Rattle.std.proofs.Common.{◌≡◌, ℕ, zero, suc, ◌+◌, ◌/◌, ◌%◌, ◌<◌, ◌≤◌, ◌^◌, Bool, true, false, cond, leb, eqb, List, [], ◌∷◌, ◌++◌, length, Option, Some, None, refl, sym, ap, subst, ◌∙◌, arith, inl, inr, ◌⊎◌}
use Rattle.std.specs.Prelude.{◌&&◌, ◌||◌, ◌-◌}
use Rattle.std.proofs.lemmas.Bool.{ltb-true, leb-true, eqb-true, lt-ltb, le-ltb, le-leb, cases_lt}
use Rattle.std.proofs.lemmas.List.{append-nil, nil_from_length}
use Rattle.std.proofs.lemmas.List.Concat.{flat_map-cons, flat_map-append}
use Rattle.std.proofs.Common.{append_assoc, length-append}
use Rattle.class_model.specs.Text.{unit_bytes, text, IsUnits, IsFirstBad, is_single, is_next, is_two, is_three, unit_of_two, unit_of_three, unit_at}

and_true : (a b : Bool) → a && b ≡ true → (a ≡ true) × (b ≡ true)
and_true true b e = (refl, e)
and_true false b e = absurd cc

or_right : (a b : Bool) → b ≡ true → (a || b) ≡ true
or_right true b e = refl
or_right false b e = e

true_false : (b : Bool) → b ≡ true → b ≡ false → ⊥
true_false true p q = absurd cc
true_false false p q = absurd cc

and_false : (a b : Bool) → b ≡ false → a && b ≡ false
and_false true b e = e
and_false false b e = refl

single_false : (n : ℕ) → (n ≡ 0) ⊎ (128 ≤ n) → is_single n ≡ false
single_false n (inl z) = subst (λ (m : ℕ). is_single m ≡ false) (sym z) refl
single_false n (inr le) = and_false _ _ (le-ltb n 128 le)

zero_or_big : (n : ℕ) (b : Bool) → eqb n 0 ≡ b → (b || leb 128 n) ≡ true → (n ≡ 0) ⊎ (128 ≤ n)
zero_or_big n true z e = inl (eqb-true n 0 z)
zero_or_big n false z e = inr (leb-true 128 n e)

single_unit : (u : ℕ) → is_single u ≡ true → unit_bytes u ≡ u ∷ []
single_unit u e = rw e refl

unit_two : (n : ℕ) → n < 2048 → is_single n ≡ false → unit_bytes n ≡ (192 + n / 64) ∷ (128 + n % 64) ∷ []
unit_two n lt e = rw (e, lt-ltb n 2048 lt) refl

unit_three : (n : ℕ) → 2048 ≤ n → unit_bytes n ≡ (224 + n / 4096) ∷ (128 + n / 64 % 64) ∷ (128 + n % 64) ∷ []
unit_three n le = let big : 128 ≤ n = omega arith in rw (single_false n (inr big), le-ltb n 2048 le) refl

pair_is : (a b c d : ℕ) → a ≡ c → b ≡ d → a ∷ b ∷ [] ≡ c ∷ d ∷ []
pair_is a b c d p q = rw (p, q) refl

triple_is : (a b c d e f : ℕ) → a ≡ d → b ≡ e → c ≡ f → a ∷ b ∷ c ∷ [] ≡ d ∷ e ∷ f ∷ []
triple_is a b c d e f p q r = rw (p, q, r) refl

pub record IsTwo (a b : ℕ) : Type 0 where
  pub a_low : 192 ≤ a
  pub a_high : a < 224
  pub b_low : 128 ≤ b
  pub b_high : b < 192
  pub shape : (unit_of_two a b ≡ 0) ⊎ (128 ≤ unit_of_two a b)

two_facts : (a b : ℕ) → is_two a b ≡ true → IsTwo a b
two_facts a b e =
    let p = and_true _ _ e in
    let q = and_true _ _ p.1 in
    let r = and_true _ _ q.1 in
    let s = and_true _ _ r.0 in
    record { a_low = leb-true _ _ p.0; a_high = ltb-true _ _ q.0; b_low = leb-true _ _ s.0; b_high = ltb-true _ _ s.1; shape = zero_or_big (unit_of_two a b) _ refl r.1 }

two_low : (a b : ℕ) → a < 224 → b < 192 → unit_of_two a b < 2048
two_low a b h k = omega arith

two_first : (a b : ℕ) → IsTwo a b → 192 + unit_of_two a b / 64 ≡ a
two_first a b f = omega (arith, f.a_low, f.a_high, f.b_low, f.b_high)

two_second : (a b : ℕ) → IsTwo a b → 128 + unit_of_two a b % 64 ≡ b
two_second a b f = omega (arith, f.a_low, f.a_high, f.b_low, f.b_high)

two_back : (a b : ℕ) → is_two a b ≡ true → unit_bytes (unit_of_two a b) ≡ a ∷ b ∷ []
two_back a b e =
    let f = two_facts a b e in
    unit_two (unit_of_two a b) (two_low a b f.a_high f.b_high) (single_false (unit_of_two a b) f.shape) ∙ pair_is _ _ a b (two_first a b f) (two_second a b f)

pub record IsThree (a b c : ℕ) : Type 0 where
  pub a_low : 224 ≤ a
  pub a_high : a < 240
  pub b_low : 128 ≤ b
  pub b_high : b < 192
  pub c_low : 128 ≤ c
  pub c_high : c < 192
  pub big : 2048 ≤ unit_of_three a b c

three_facts : (a b c : ℕ) → is_three a b c ≡ true → IsThree a b c
three_facts a b c e =
    let p = and_true _ _ e in
    let q = and_true _ _ p.1 in
    let r = and_true _ _ q.1 in
    let s = and_true _ _ r.0 in
    let t = and_true _ _ r.1 in
    let u = and_true _ _ t.0 in
    record { a_low = leb-true _ _ p.0; a_high = ltb-true _ _ q.0; b_low = leb-true _ _ s.0; b_high = ltb-true _ _ s.1; c_low = leb-true _ _ u.0; c_high = ltb-true _ _ u.1; big = leb-true _ _ t.1 }

three_first : (a b c : ℕ) → IsThree a b c → 224 + unit_of_three a b c / 4096 ≡ a
three_first a b c f = omega (arith, f.a_low, f.a_high, f.b_low, f.b_high, f.c_low, f.c_high)

three_second : (a b c : ℕ) → IsThree a b c → 128 + unit_of_three a b c / 64 % 64 ≡ b
three_second a b c f = omega (arith, f.a_low, f.a_high, f.b_low, f.b_high, f.c_low, f.c_high)

three_third : (a b c : ℕ) → IsThree a b c → 128 + unit_of_three a b c % 64 ≡ c
three_third a b c f = omega (arith, f.a_low, f.a_high, f.b_low, f.b_high, f.c_low, f.c_high)

three_high : (a b c : ℕ) → IsThree a b c → unit_of_three a b c < 2 ^ 16
three_high a b c f = omega (arith, f.a_high, f.b_high, f.c_high)

three_back : (a b c : ℕ) → is_three a b c ≡ true → unit_bytes (unit_of_three a b c) ≡ a ∷ b ∷ c ∷ []
three_back a b c e =
    let f = three_facts a b c e in
    unit_three (unit_of_three a b c) f.big ∙ triple_is _ _ _ a b c (three_first a b c f) (three_second a b c f) (three_third a b c f)

-- what a unit took from the front
pub record TakesUnit (bytes : List ℕ) (x : ℕ × List ℕ) : Type 0 where
  pub parts : unit_bytes x.0 ++ x.1 ≡ bytes
  pub fits : x.0 < 2 ^ 16

abbrev found : ℕ → List ℕ → Option (ℕ × List ℕ)
found u rest = Some (u, rest)

abbrev found_none : Option (ℕ × List ℕ)
found_none = None

-- what was found by a test, or behind it
pick : (P : ℕ × List ℕ → Type 0) (b : Bool) (x : ℕ × List ℕ) (o : Option (ℕ × List ℕ)) (y : ℕ × List ℕ) → cond b (Some x) o ≡ Some y → (b ≡ true → P x) → (o ≡ Some y → P y) → P y
pick P true x o y e here there = let same : x ≡ y = cc in subst P same (here refl)
pick P false x o y e here there = there e

pub nothing_found : (y : ℕ × List ℕ) → found_none ≡ Some y → ⊥
nothing_found y e = absurd cc

small : (a : ℕ) → a < 128 → a < 2 ^ 16
small a lt = omega (arith, lt)

single_low : (a : ℕ) → is_single a ≡ true → a < 2 ^ 16
single_low a e = small a (ltb-true a 128 (and_true _ _ e).1)

single_takes : (a : ℕ) (rest : List ℕ) → is_single a ≡ true → TakesUnit (a ∷ rest) (a, rest)
single_takes a rest e = record { parts = rw e refl; fits = single_low a e }

two_takes : (a b : ℕ) (rest : List ℕ) → is_two a b ≡ true → TakesUnit (a ∷ b ∷ rest) (unit_of_two a b, rest)
two_takes a b rest e =
    let f = two_facts a b e in
    let low = two_low a b f.a_high f.b_high in
    record { parts = ap (λ (t : List ℕ). t ++ rest) (two_back a b e); fits = omega (arith, low) }

three_takes : (a b c : ℕ) (rest : List ℕ) → is_three a b c ≡ true → TakesUnit (a ∷ b ∷ c ∷ rest) (unit_of_three a b c, rest)
three_takes a b c rest e = record { parts = ap (λ (t : List ℕ). t ++ rest) (three_back a b c e); fits = three_high a b c (three_facts a b c e) }

pub unit_takes : (bytes : List ℕ) (x : ℕ × List ℕ) → unit_at bytes ≡ Some x → TakesUnit bytes x
unit_takes [] x e = absurd (nothing_found x e)
unit_takes (a ∷ []) x e =
    pick (TakesUnit (a ∷ [])) (is_single a) (a, []) None x e (single_takes a []) (λ n. absurd (nothing_found x n))
unit_takes (a ∷ b ∷ []) x e =
    pick (TakesUnit (a ∷ b ∷ [])) (is_single a) (a, b ∷ []) (cond (is_two a b) (Some (unit_of_two a b, [])) None) x e (single_takes a (b ∷ [])) (λ f.
    pick (TakesUnit (a ∷ b ∷ [])) (is_two a b) (unit_of_two a b, []) None x f (two_takes a b []) (λ n. absurd (nothing_found x n)))
unit_takes (a ∷ b ∷ c ∷ rest) x e =
    pick (TakesUnit (a ∷ b ∷ c ∷ rest)) (is_single a) (a, b ∷ c ∷ rest) (cond (is_two a b) (Some (unit_of_two a b, c ∷ rest)) (cond (is_three a b c) (Some (unit_of_three a b c, rest)) None)) x e (single_takes a (b ∷ c ∷ rest)) (λ f.
    pick (TakesUnit (a ∷ b ∷ c ∷ rest)) (is_two a b) (unit_of_two a b, c ∷ rest) (cond (is_three a b c) (Some (unit_of_three a b c, rest)) None) x f (two_takes a b (c ∷ rest)) (λ g.
    pick (TakesUnit (a ∷ b ∷ c ∷ rest)) (is_three a b c) (unit_of_three a b c, rest) None x g (three_takes a b c rest) (λ n. absurd (nothing_found x n))))

-- ---- a unit is read from its spelling

not_single : (n : ℕ) → 128 ≤ n → is_single n ≡ false
not_single n le = single_false n (inr le)

single_again : (u : ℕ) (rest : List ℕ) → is_single u ≡ true → unit_at (u ∷ rest) ≡ Some (u, rest)
single_again u [] e = rw e refl
single_again u (b ∷ []) e = rw e refl
single_again u (b ∷ c ∷ rest) e = rw e refl

two_again : (a b : ℕ) (rest : List ℕ) → is_single a ≡ false → is_two a b ≡ true → unit_at (a ∷ b ∷ rest) ≡ Some (unit_of_two a b, rest)
two_again a b [] h e = rw (h, e) refl
two_again a b (c ∷ rest) h e = rw (h, e) refl

three_again : (a b c : ℕ) (rest : List ℕ) → is_single a ≡ false → is_two a b ≡ false → is_three a b c ≡ true → unit_at (a ∷ b ∷ c ∷ rest) ≡ Some (unit_of_three a b c, rest)
three_again a b c rest h k e = rw (h, k, e) refl

and_both : (a b : Bool) → a ≡ true → b ≡ true → a && b ≡ true
and_both a b p q = rw (p, q) refl

two_value : (u : ℕ) → unit_of_two (192 + u / 64) (128 + u % 64) ≡ u
two_value u = omega arith

three_value : (u : ℕ) → unit_of_three (224 + u / 4096) (128 + u / 64 % 64) (128 + u % 64) ≡ u
three_value u = omega arith

shape_again : (n : ℕ) → (n ≡ 0) ⊎ (128 ≤ n) → (eqb n 0 || leb 128 n) ≡ true
shape_again n (inl z) = subst (λ (m : ℕ). (eqb m 0 || leb 128 m) ≡ true) (sym z) refl
shape_again n (inr le) = or_right _ _ (le-leb 128 n le)

next_again : (n : ℕ) → is_next (128 + n % 64) ≡ true
next_again n = and_both _ _ (le-leb 128 (128 + n % 64) (omega arith)) (lt-ltb (128 + n % 64) 192 (omega arith))

is_two_again : (u : ℕ) → u < 2048 → (u ≡ 0) ⊎ (128 ≤ u) → is_two (192 + u / 64) (128 + u % 64) ≡ true
is_two_again u lt shape =
    and_both _ _ (le-leb 192 (192 + u / 64) (omega arith)) (and_both _ _ (lt-ltb (192 + u / 64) 224 (omega arith))
    (and_both _ _ (next_again u) (subst (λ (n : ℕ). (eqb n 0 || leb 128 n) ≡ true) (sym (two_value u)) (shape_again u shape))))

is_three_again : (u : ℕ) → u < 2 ^ 16 → 2048 ≤ u → is_three (224 + u / 4096) (128 + u / 64 % 64) (128 + u % 64) ≡ true
is_three_again u lt le =
    and_both _ _ (le-leb 224 (224 + u / 4096) (omega arith)) (and_both _ _ (lt-ltb (224 + u / 4096) 240 (omega arith))
    (and_both _ _ (next_again (u / 64)) (and_both _ _ (next_again u) (subst (λ (n : ℕ). leb 2048 n ≡ true) (sym (three_value u)) (le-leb 2048 u le)))))

no_two : (a b : ℕ) → 224 ≤ a → is_two a b ≡ false
no_two a b le = rw (le-ltb a 224 le) (and_false _ _ refl)

many : (u : ℕ) → is_single u ≡ false → (u ≡ 0) ⊎ (128 ≤ u)
many zero e = inl refl
many (suc n) e =
    elim (cases_lt (suc n) 128) [
      | inl lt ↦ let t : is_single (suc n) ≡ true = and_both _ _ (lt-ltb 0 (suc n) (omega arith)) (lt-ltb (suc n) 128 lt) in absurd (true_false _ t e)
      | inr le ↦ inr le
    ]

again_from : (u : ℕ) (rest : List ℕ) (b : Bool) → u < 2 ^ 16 → is_single u ≡ b → unit_at (unit_bytes u ++ rest) ≡ Some (u, rest)
again_from u rest true lt e = ap (λ (t : List ℕ). unit_at (t ++ rest)) (single_unit u e) ∙ single_again u rest e
again_from u rest false lt e =
    elim (cases_lt u 2048) [
      | inl small ↦ ap (λ (t : List ℕ). unit_at (t ++ rest)) (unit_two u small e) ∙ two_again (192 + u / 64) (128 + u % 64) rest (not_single (192 + u / 64) (omega arith)) (is_two_again u small (many u e))
          ∙ ap (λ (n : ℕ). found n rest) (two_value u)
      | inr big ↦ ap (λ (t : List ℕ). unit_at (t ++ rest)) (unit_three u big)
          ∙ three_again (224 + u / 4096) (128 + u / 64 % 64) (128 + u % 64) rest (not_single (224 + u / 4096) (omega arith)) (no_two (224 + u / 4096) (128 + u / 64 % 64) (omega arith)) (is_three_again u lt big)
          ∙ ap (λ (n : ℕ). found n rest) (three_value u)
    ]

pub unit_again : (u : ℕ) (rest : List ℕ) → u < 2 ^ 16 → unit_at (unit_bytes u ++ rest) ≡ Some (u, rest)
unit_again u rest lt = again_from u rest _ lt refl

-- ---- texts

some_is : (x y : ℕ × List ℕ) → found x.0 x.1 ≡ found y.0 y.1 → x ≡ y
some_is x y e = cc

cons_is : (u v : ℕ) (vs ws : List ℕ) → u ≡ v → vs ≡ ws → v ∷ vs ≡ u ∷ ws
cons_is u v vs ws p q = rw (p, q) refl

regroup : (u : ℕ) (us rest : List ℕ) → text (u ∷ us) ++ rest ≡ unit_bytes u ++ (text us ++ rest)
regroup u us rest = ap (λ (y : List ℕ). y ++ rest) (flat_map-cons unit_bytes u us) ∙ append_assoc (unit_bytes u) (text us) rest

pub no_text : (name : List ℕ) → IsUnits name → text name ≡ [] → name ≡ []
no_text [] h e = refl
no_text (u ∷ us) h e = absurd (nothing_found (u, text us) (ap unit_at (sym e ∙ flat_map-cons unit_bytes u us) ∙ unit_again u (text us) h.0))

bad_text : (b : ℕ) (bs name : List ℕ) → IsUnits name → unit_at (b ∷ bs) ≡ None → b ∷ bs ≡ text name → ⊥
bad_text b bs [] h bad e = absurd cc
bad_text b bs (u ∷ us) h bad e = nothing_found (u, text us) (sym bad ∙ ap unit_at (e ∙ flat_map-cons unit_bytes u us) ∙ unit_again u (text us) h.0)

-- two texts that begin with the same units go on alike
pub record GoesOn (rest : List ℕ) (front name : List ℕ) : Type 0 where
  pub back : List ℕ
  pub parts : name ≡ front ++ back
  pub spelled : rest ≡ text back
  pub fits : IsUnits back

pub goes_on : (front : List ℕ) (rest : List ℕ) (name : List ℕ) → IsUnits front → IsUnits name → text front ++ rest ≡ text name → GoesOn rest front name
goes_on [] rest name f n e = record { back = name; parts = refl; spelled = e; fits = n }
goes_on (u ∷ us) rest [] f n e = absurd (nothing_found (u, text us ++ rest) (ap unit_at (sym e ∙ regroup u us rest) ∙ unit_again u (text us ++ rest) f.0))
goes_on (u ∷ us) rest (v ∷ vs) f n e =
    let same = some_is (u, text us ++ rest) (v, text vs) (sym (unit_again u (text us ++ rest) f.0) ∙ ap unit_at (sym (regroup u us rest) ∙ e ∙ flat_map-cons unit_bytes v vs) ∙ unit_again v (text vs) n.0) in
    let g = goes_on us rest vs f.1 n.1 (ap (λ (x : ℕ × List ℕ). x.1) same) in
    record { back = g.back; parts = cons_is u v vs (us ++ g.back) (ap (λ (x : ℕ × List ℕ). x.0) same) g.parts; spelled = g.spelled; fits = g.fits }

-- ---- the loop

pub IsUnits-push : (name : List ℕ) (u : ℕ) → IsUnits name → u < 2 ^ 16 → IsUnits (name ++ u ∷ [])
IsUnits-push [] u h lt = (lt, tt)
IsUnits-push (v ∷ vs) u h lt = (h.0, IsUnits-push vs u h.1 lt)

pub text-push : (name : List ℕ) (u : ℕ) → text (name ++ u ∷ []) ≡ text name ++ unit_bytes u
text-push name u = flat_map-append unit_bytes name (u ∷ []) ∙ ap (λ (t : List ℕ). text name ++ t) (flat_map-cons unit_bytes u [] ∙ append-nil (unit_bytes u))

pub step : (name : List ℕ) (u : ℕ) (after rest bytes : List ℕ) → unit_at rest ≡ Some (u, after) → text name ++ rest ≡ bytes → IsUnits name
    → (text (name ++ u ∷ []) ++ after ≡ bytes) × IsUnits (name ++ u ∷ [])
step name u after rest bytes e so_far named =
    let t = unit_takes rest (u, after) e in
    (rw (text-push name u) (append_assoc (text name) (unit_bytes u) after ∙ ap (λ (x : List ℕ). text name ++ x) t.parts ∙ so_far), IsUnits-push name u named t.fits)

pub is_whole : (name : List ℕ) (rest bytes : List ℕ) → eqb (length rest) 0 ≡ true → text name ++ rest ≡ bytes → IsUnits name → (other : List ℕ) → IsUnits other → bytes ≡ text other → name ≡ other
is_whole name rest bytes test so_far named other fits e =
    let g = goes_on name rest other named fits (so_far ∙ e) in
    let empty : rest ≡ [] = nil_from_length rest (eqb-true _ _ test) in
    let back : g.back ≡ [] = no_text g.back g.fits (sym g.spelled ∙ empty) in
    sym (g.parts ∙ ap (λ (x : List ℕ). name ++ x) back ∙ append-nil name)

pub is_bad : (name rest bytes : List ℕ) → eqb (length rest) 0 ≡ false → unit_at rest ≡ None → text name ++ rest ≡ bytes → IsUnits name → (other : List ℕ) → IsUnits other → bytes ≡ text other → ⊥
is_bad name [] bytes test bad so_far named other fits e = absurd cc
is_bad name (b ∷ bs) bytes test bad so_far named other fits e =
    let g = goes_on name (b ∷ bs) other named fits (so_far ∙ e) in
    bad_text b bs g.back g.fits bad g.spelled

-- ---- the first bad place

no_unit : (rest : List ℕ) → unit_at rest ≡ None → (unit : ℕ) (after : List ℕ) → unit < 2 ^ 16 → unit_bytes unit ++ after ≡ rest → ⊥
no_unit rest bad unit after lt e = nothing_found (unit, after) (sym bad ∙ ap unit_at (sym e) ∙ unit_again unit after lt)

not_empty : (rest : List ℕ) → eqb (length rest) 0 ≡ false → rest ≡ [] → ⊥
not_empty [] test e = absurd cc
not_empty (b ∷ bs) test e = absurd cc

place_of : (front rest bytes : List ℕ) → front ++ rest ≡ bytes → length bytes - length rest ≡ length front
place_of front rest bytes e = let sum : length bytes ≡ length front + length rest = ap (λ (l : List ℕ). length l) (sym e) ∙ length-append front rest in omega (arith, sum)

pub first_bad : (name rest bytes : List ℕ) → eqb (length rest) 0 ≡ false → unit_at rest ≡ None → text name ++ rest ≡ bytes → IsUnits name → IsFirstBad bytes (length bytes - length rest)
first_bad name rest bytes test bad so_far units = record {
  front = name;
  rest = rest;
  units = units;
  parts = so_far;
  place = place_of (text name) rest bytes so_far;
  more = not_empty rest test;
  bad = no_unit rest bad;
}
