-- The words of a text as they are printed (this project's own).
use Rattle.std.specs.Prelude.{◌≢◌, ◌<◌, length, ℕ, ◌+◌, ◌/◌, ◌%◌, ℤ, List, [], ◌∷◌, ◌++◌, nat_lt, if◌then◌else◌}
use Rattle.std.specs.List.{AllByRecursion, flat_map, join_with_byte}
use Rattle.std.specs.Fmt.{decimal, signed_decimal}
use Rattle.asm_words.specs.declared.stated.MemberName.{MemberName}

-- A line of words, with a space between each two.
abbrev pub joined : List (List ℕ) → List ℕ
joined words = join_with_byte 32 words

-- ---- labels: L and the number of the instruction

abbrev pub label : ℕ → List ℕ
label n = 76 ∷ decimal n

abbrev pub label_word : ℕ → List ℕ
label_word n = label n ++ 58 ∷ []

-- a key and where it leads
abbrev pub pair_word : ℤ × ℕ → List ℕ
pair_word pair = signed_decimal pair.0 ++ 58 ∷ label pair.1

-- ---- texts in quotes: each code unit by its digits

abbrev pub hex_glyph : ℕ → ℕ
hex_glyph digit = if nat_lt digit 10 then 48 + digit else 55 + digit

abbrev pub escaped : ℕ → List ℕ
escaped unit =
    92 ∷ 117 ∷ hex_glyph (unit / 4096 % 16) ∷ hex_glyph (unit / 256 % 16) ∷
    hex_glyph (unit / 16 % 16) ∷ hex_glyph (unit % 16) ∷ []

abbrev pub quoted : List ℕ → List ℕ
quoted units = 34 ∷ (flat_map escaped units ++ 34 ∷ [])

-- ---- members: the class, a dot and the name

abbrev pub member_word : MemberName → List ℕ
member_word member = member.class ++ 46 ∷ member.name

-- ---- what may stand as a word

-- No unit of these is this one.
abbrev pub Lacks : ℕ → List ℕ → Type 0
Lacks unit units = AllByRecursion (λ other. other ≢ unit) units

-- A word has a unit and no space.
pub record IsWord (word : List ℕ) : Type 0 where
  pub some : 0 < length word
  pub whole : Lacks 32 word
