-- Identifiers of tests differ where classes or methods do.
use Rattle.std.proofs.Common.{◌≡◌, ◌∙◌, ℕ, ◌+◌, ◌-◌, ◌*◌, ◌/◌, ◌%◌, ◌<◌, ◌≤◌, Bool, true, false, not, cond, ◌&&◌, List, [], ◌∷◌, ◌++◌, map, codes, Option, Some, None, refl, sym, ap, arith, append_assoc}
use Rattle.std.specs.Prelude.{is_some, unwrap_or, nat_le, nat_lt, ◌==◌}
use Rattle.std.specs.Char.Escape.{encode_utf16}
use Rattle.std.specs.Char.Utf16.{is_high_surrogate, is_low_surrogate, surrogate_pair_char, lone_unit_char, utf16_chars, has_unpaired_surrogate, utf16_lossy_chars}
use Rattle.std.specs.List.{AllByRecursion, flat_map, list_any, list_all}
use Rattle.std.proofs.Math.Utf8.{encodes}
use Rattle.std.proofs.lemmas.Bool.{ltb-true, leb-true, lt-ltb, le-ltb}
use Rattle.std.proofs.lemmas.Grind.{flat_map-append}
use Rattle.std.proofs.lemmas.Str.{encode_ascii, encodes-append, encodes_same}
use Rattle.class_table.specs.declared.scripted.Test.{Test}
use Rattle.report_schema.specs.Report.{test_id}
use Rattle.report_laws.specs.Laws.{HasPlainNames, IdsDiffer}

-- ---- the units of a name from its characters

abbrev lossy : List (Option ℕ) → List ℕ
lossy cs = map (λ o. unwrap_or o 0xFFFD) cs

abbrev any_lone : List (Option ℕ) → Bool
any_lone cs = list_any (λ o. not (is_some o)) cs

abbrev back_from : List (Option ℕ) → List ℕ
back_from cs = flat_map encode_utf16 (lossy cs)

one_unit : (u : ℕ) → u < 65536 → encode_utf16 u ≡ u ∷ []
one_unit u small = ap (λ b. cond b (u ∷ []) ((0xD800 + (u - 0x1_0000) / 0x400) ∷ (0xDC00 + (u - 0x1_0000) % 0x400) ∷ [])) (lt-ltb u 65536 small)

lone_by : (u : ℕ) (cs : List (Option ℕ)) (us : List ℕ) (b : Bool) → u < 65536 → any_lone ((cond b None (Some u)) ∷ cs) ≡ false → (any_lone cs ≡ false → back_from cs ≡ us) → back_from ((cond b None (Some u)) ∷ cs) ≡ u ∷ us
lone_by u cs us true small e rest = absurd cc
lone_by u cs us false small e rest = λ i. one_unit u small i ++ rest e i

lone : (u : ℕ) (cs : List (Option ℕ)) (us : List ℕ) → u < 65536 → any_lone (lone_unit_char u ∷ cs) ≡ false → (any_lone cs ≡ false → back_from cs ≡ us) → back_from (lone_unit_char u ∷ cs) ≡ u ∷ us
lone u cs us small e rest = lone_by u cs us (nat_le 0xD800 u && nat_lt u 0xE000) small e rest

and_first : (a b : Bool) → a && b ≡ true → a ≡ true
and_first true b e = refl
and_first false b e = absurd cc

and_then : (a b : Bool) → a && b ≡ true → b ≡ true
and_then true b e = e
and_then false b e = absurd cc

parted : (a b : ℕ) → b < 1024 → ((a * 1024 + b) / 1024 ≡ a) × ((a * 1024 + b) % 1024 ≡ b)
parted a b small =
    let whole : 1024 * ((a * 1024 + b) / 1024) + (a * 1024 + b) % 1024 ≡ a * 1024 + b = omega arith in
    let less : (a * 1024 + b) % 1024 < 1024 = omega arith in
    (omega (arith, whole, less, small), omega (arith, whole, less, small))

two_units : (u v : ℕ) → 0xD800 ≤ u → u < 0xDC00 → 0xDC00 ≤ v → v < 0xE000 → encode_utf16 (surrogate_pair_char u v) ≡ u ∷ v ∷ []
two_units u v a b c d =
    let char = surrogate_pair_char u v in
    let large : 65536 ≤ char = omega arith in
    let inner : char - 0x1_0000 ≡ (u - 0xD800) * 1024 + (v - 0xDC00) = omega arith in
    let small : v - 0xDC00 < 1024 = omega (arith, c, d) in
    let both = parted (u - 0xD800) (v - 0xDC00) small in
    let high : 0xD800 + (char - 0x1_0000) / 0x400 ≡ u = ap (λ x. 0xD800 + x / 0x400) inner ∙ ap (λ x. 0xD800 + x) both.0 ∙ omega (arith, a) in
    let low : 0xDC00 + (char - 0x1_0000) % 0x400 ≡ v = ap (λ x. 0xDC00 + x % 0x400) inner ∙ ap (λ x. 0xDC00 + x) both.1 ∙ omega (arith, c) in
    ap (λ t. cond t (char ∷ []) ((0xD800 + (char - 0x1_0000) / 0x400) ∷ (0xDC00 + (char - 0x1_0000) % 0x400) ∷ [])) (le-ltb char 65536 large) ∙ (λ i. high i ∷ low i ∷ [])

pair_is : (u v : ℕ) → is_high_surrogate u && is_low_surrogate v ≡ true → encode_utf16 (surrogate_pair_char u v) ≡ u ∷ v ∷ []
pair_is u v e =
    let h = and_first (is_high_surrogate u) (is_low_surrogate v) e in
    let l = and_then (is_high_surrogate u) (is_low_surrogate v) e in
    two_units u v (leb-true 0xD800 u (and_first (nat_le 0xD800 u) (nat_lt u 0xDC00) h)) (ltb-true u 0xDC00 (and_then (nat_le 0xD800 u) (nat_lt u 0xDC00) h))
    (leb-true 0xDC00 v (and_first (nat_le 0xDC00 v) (nat_lt v 0xE000) l)) (ltb-true v 0xE000 (and_then (nat_le 0xDC00 v) (nat_lt v 0xE000) l))

pair_by : (u v : ℕ) (far near : List (Option ℕ)) (us : List ℕ) (b : Bool) → is_high_surrogate u && is_low_surrogate v ≡ b → u < 65536
    → any_lone (cond b (Some (surrogate_pair_char u v) ∷ far) (lone_unit_char u ∷ near)) ≡ false → (any_lone far ≡ false → back_from far ≡ us) → (any_lone near ≡ false → back_from near ≡ v ∷ us)
    → back_from (cond b (Some (surrogate_pair_char u v) ∷ far) (lone_unit_char u ∷ near)) ≡ u ∷ v ∷ us
pair_by u v far near us true is small e beyond next = λ i. pair_is u v is i ++ beyond e i
pair_by u v far near us false is small e beyond next = lone u near (v ∷ us) small e next

back : (us : List ℕ) → AllByRecursion (λ unit. unit < 65536) us → has_unpaired_surrogate us ≡ false → flat_map encode_utf16 (utf16_lossy_chars us) ≡ us
unfolding utf16_chars
back [] a e = refl
back (u ∷ []) a e = lone u [] [] a.0 e (λ none. refl)
back (u ∷ v ∷ us) a e = pair_by u v (utf16_chars us) (utf16_chars (v ∷ us)) us (is_high_surrogate u && is_low_surrogate v) refl a.0 e (back us a.1.1) (back (v ∷ us) a.1)

-- ---- class and method from both

dot_there : (xs ys : List ℕ) → list_all (λ unit. not (unit == 46)) (xs ++ 46 ∷ ys) ≡ true → ⊥
dot_there [] ys e = absurd cc
dot_there (x ∷ xs) ys e = dot_there xs ys (and_then (not (x == 46)) (list_all (λ unit. not (unit == 46)) (xs ++ 46 ∷ ys)) e)

split : (xs ys zs ws : List ℕ) → list_all (λ unit. not (unit == 46)) ys ≡ true → list_all (λ unit. not (unit == 46)) ws ≡ true → xs ++ 46 ∷ ys ≡ zs ++ 46 ∷ ws → (xs ≡ zs) × (ys ≡ ws)
split [] ys [] ws p q e = (refl, cc)
split [] ys (z ∷ zs) ws p q e = absurd (let rest : ys ≡ zs ++ 46 ∷ ws = cc in dot_there zs ws (sym (ap (list_all (λ unit. not (unit == 46))) rest) ∙ p))
split (x ∷ xs) ys [] ws p q e = absurd (let rest : ws ≡ xs ++ 46 ∷ ys = cc in dot_there xs ys (sym (ap (list_all (λ unit. not (unit == 46))) rest) ∙ q))
split (x ∷ xs) ys (z ∷ zs) ws p q e =
    let here : x ≡ z = cc in
    let rest : xs ++ 46 ∷ ys ≡ zs ++ 46 ∷ ws = cc in
    let both = split xs ys zs ws p q rest in
    (λ i. here i ∷ both.0 i, both.1)

-- the identifier is the text of these characters
id_chars : (t : Test) → test_id t ≡ encodes (utf16_lossy_chars t.class ++ 46 ∷ utf16_lossy_chars t.method)
id_chars t =
    append_assoc (encodes (utf16_lossy_chars t.class)) (codes ".") (encodes (utf16_lossy_chars t.method))
    ∙ ap (λ dot. encodes (utf16_lossy_chars t.class) ++ (dot ++ encodes (utf16_lossy_chars t.method))) (sym (encode_ascii 46 (omega arith)))
    ∙ sym (encodes-append (utf16_lossy_chars t.class) (46 ∷ utf16_lossy_chars t.method))

-- which are the units of the class, `.` and those of the method
id_units : (t : Test) → HasPlainNames t → flat_map encode_utf16 (utf16_lossy_chars t.class ++ 46 ∷ utf16_lossy_chars t.method) ≡ t.class ++ 46 ∷ t.method
id_units t names =
    flat_map-append encode_utf16 (utf16_lossy_chars t.class) (46 ∷ utf16_lossy_chars t.method)
    ∙ (λ i. back t.class names.class_units names.class_paired i ++ 46 ∷ back t.method names.method_units names.method_paired i)

pub ids_differ : IdsDiffer
ids_differ t u plain other e =
    let chars = encodes_same (utf16_lossy_chars t.class ++ 46 ∷ utf16_lossy_chars t.method) (utf16_lossy_chars u.class ++ 46 ∷ utf16_lossy_chars u.method) (sym (id_chars t) ∙ e ∙ id_chars u) in
    split t.class t.method u.class u.method plain.undotted other.undotted (sym (id_units t plain) ∙ ap (flat_map encode_utf16) chars ∙ id_units u other)
