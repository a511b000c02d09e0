-- A text in quotes is read as it is printed.
use Rattle.std.proofs.Common.{◌≡◌, ◌∙◌, refl, sym, ap, ℕ, ◌+◌, ◌*◌, ◌/◌, ◌%◌, ◌^◌, ◌<◌, true, List, [], ◌∷◌, ◌++◌, Option, Some, None, append_assoc, arith}
use Rattle.std.specs.Prelude.{option_and_then, option_to_list}
use Rattle.std.specs.List.{AllByRecursion, flat_map}
use Rattle.std.specs.Option.{option_map}
use Rattle.asm_words.specs.Quoted.{hex_digit, quoted_in}
use Rattle.asm_laws.specs.Words.{hex_glyph, escaped, quoted, Lacks}
use Rattle.asm_laws.proofs.MnemonicLaws.{is_opcode, all_below, below, opcode_read}
use Rattle.asm_laws.proofs.WordLaws.{parted_is}

hexes : all_below (λ d. is_opcode d (hex_digit (hex_glyph d))) 16 ≡ true
hexes = refl

hex_is : (d : ℕ) → d < 16 → hex_digit (hex_glyph d) ≡ Some d
hex_is d lt = opcode_read d (hex_digit (hex_glyph d)) (below (λ n. is_opcode n (hex_digit (hex_glyph n))) 16 d lt hexes)

abbrev four : ℕ → ℕ → ℕ → ℕ → ℕ
four a b c d = (((((0 * 16 + a) % 0x1_0000) * 16 + b) % 0x1_0000 * 16 + c) % 0x1_0000 * 16 + d) % 0x1_0000

-- what a step gives that makes no unit whole
abbrev quiet : Option (List ℕ) → Option (List ℕ)
quiet o = option_map (λ (text : List ℕ). option_to_list {X = ℕ} None ++ text) o

collapse : (v : ℕ) (o : Option (List ℕ)) → quiet (quiet (quiet (quiet (quiet (option_map (λ (text : List ℕ). option_to_list {X = ℕ} (Some v) ++ text) o))))) ≡ option_map (λ (t : List ℕ). v ∷ t) o
collapse v None = refl
collapse v (Some text) = refl

step : (a b c d : ℕ) (rest : List ℕ) → a < 16 → b < 16 → c < 16 → d < 16
    → quoted_in (34 ∷ 92 ∷ 117 ∷ hex_glyph a ∷ hex_glyph b ∷ hex_glyph c ∷ hex_glyph d ∷ rest) ≡ option_map (λ (t : List ℕ). four a b c d ∷ t) (quoted_in (34 ∷ rest))
step a b c d rest la lb lc ld =
    ap (option_and_then _) (parted_is 34 [] (92 ∷ 117 ∷ hex_glyph a ∷ hex_glyph b ∷ hex_glyph c ∷ hex_glyph d ∷ rest) tt)
    ∙ rw (hex_is a la, hex_is b lb, hex_is c lc, hex_is d ld)
    (collapse (four a b c d) _ ∙ ap (option_map (λ (t : List ℕ). four a b c d ∷ t)) (sym (ap (option_and_then _) (parted_is 34 [] rest tt))))

four_is : (unit : ℕ) → unit < 2 ^ 16 → four (unit / 4096 % 16) (unit / 256 % 16) (unit / 16 % 16) (unit % 16) ≡ unit
four_is unit lt = omega (arith, lt)

escaped_is : (unit : ℕ) (rest : List ℕ) → unit < 2 ^ 16 → quoted_in (34 ∷ (escaped unit ++ rest)) ≡ option_map (λ (t : List ℕ). unit ∷ t) (quoted_in (34 ∷ rest))
escaped_is unit rest lt =
    step (unit / 4096 % 16) (unit / 256 % 16) (unit / 16 % 16) (unit % 16) rest (omega arith) (omega arith) (omega arith) (omega arith)
    ∙ ap (λ (n : ℕ). option_map (λ (t : List ℕ). n ∷ t) (quoted_in (34 ∷ rest))) (four_is unit lt)

closed_is : quoted_in (34 ∷ 34 ∷ []) ≡ Some []
closed_is = refl

text_is : (units : List ℕ) → AllByRecursion (λ unit. unit < 2 ^ 16) units → quoted_in (quoted units) ≡ Some units
text_is [] all = closed_is
text_is (unit ∷ units) all =
    ap (λ (xs : List ℕ). quoted_in (34 ∷ xs)) (append_assoc (escaped unit) (flat_map escaped units) (34 ∷ []))
    ∙ escaped_is unit (flat_map escaped units ++ 34 ∷ []) all.0
    ∙ ap (option_map (λ (t : List ℕ). unit ∷ t)) (text_is units all.1)

behind_is : (before xs : List ℕ) → Lacks 34 before → quoted_in (before ++ 34 ∷ xs) ≡ quoted_in (34 ∷ xs)
behind_is before xs l = ap (option_and_then _) (parted_is 34 before xs l) ∙ sym (ap (option_and_then _) (parted_is 34 [] xs tt))

spaced : (m : List ℕ) → Lacks 34 m → Lacks 34 (m ++ 32 ∷ [])
spaced [] l = ((λ e. omega (arith, e)), tt)
spaced (x ∷ m) l = (l.0, spaced m l.1)

-- The text between quotes behind a word and a space.
pub quoted_is : (m units : List ℕ) → Lacks 34 m → AllByRecursion (λ unit. unit < 2 ^ 16) units → quoted_in (m ++ 32 ∷ quoted units) ≡ Some units
quoted_is m units l all =
    ap quoted_in (sym (append_assoc m (32 ∷ []) (quoted units)))
    ∙ behind_is (m ++ 32 ∷ []) (flat_map escaped units ++ 34 ∷ []) (spaced m l)
    ∙ text_is units all
