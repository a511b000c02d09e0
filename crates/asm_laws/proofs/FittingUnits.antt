-- What stands in a line are code units: its text, its words and the parts of these, and the text
-- between quotes.
use Rattle.std.proofs.Common.{◌≡◌, ℕ, zero, suc, ◌+◌, ◌-◌, ◌*◌, ◌/◌, ◌%◌, ◌<◌, ◌^◌, Bool, true, false, cond, List, [], ◌∷◌, ◌++◌, take, drop, Option, Some, None, inl, inr, refl, arith}
use Rattle.std.specs.Prelude.{IfSome, ◌==◌, nat_lt, nat_le, filter, position, option_to_list, option_and_then}
use Rattle.std.specs.Option.{option_map}
use Rattle.std.specs.List.{flat_map, AllByRecursion}
use Rattle.std.specs.Str.{chars, is_utf8}
use Rattle.std.specs.Char.Escape.{encode_utf16}
use Rattle.std.proofs.Math.Utf8.{scalar, scalars, scalar_cases}
use Rattle.std.proofs.lemmas.Bool.{ltb-true, ltb-false}
use Rattle.std.proofs.lemmas.Str.{IsUtf8-from_is_utf8, scalars-chars}
use Rattle.class_model.specs.Text.{IsUnits}
use Rattle.class_model.specs.Parting.{parted_at}
use Rattle.asm_words.specs.Lines.{units_in, in_front, pieces, is_some_word, words_of, is_passed, spelled_line, line_of, lines_from}
use Rattle.asm_words.specs.Words.{last_place, last_parted}
use Rattle.asm_words.specs.Quoted.{hex_digit, next_digit, quote_step, is_closed, unquoted, quoted_in}
use Rattle.asm_words.specs.declared.line.Line.{Line}
use Rattle.asm_words.proofs.IfSome.{of_map, of_then, of_if, of_unless, of_else, weaker, always}
use Rattle.asm_words.proofs.NumberLaws.{and_left, and_right}

-- ---- a fact of each element

module _ {A : Type 0} (P : A → Type 0) where
  pub every_append : (xs ys : List A) → AllByRecursion P xs → AllByRecursion P ys → AllByRecursion P (xs ++ ys)
  every_append [] ys h k = k
  every_append (x ∷ xs) ys h k = (h.0, every_append xs ys h.1 k)

  pub every_take : (n : ℕ) (xs : List A) → AllByRecursion P xs → AllByRecursion P (take n xs)
  every_take zero xs h = tt
  every_take (suc n) [] h = tt
  every_take (suc n) (x ∷ xs) h = (h.0, every_take n xs h.1)

  pub every_drop : (n : ℕ) (xs : List A) → AllByRecursion P xs → AllByRecursion P (drop n xs)
  every_drop zero xs h = h
  every_drop (suc n) [] h = tt
  every_drop (suc n) (x ∷ xs) h = every_drop n xs h.1

  kept_or_not : (b : Bool) (x : A) (xs : List A) → P x → AllByRecursion P xs → AllByRecursion P (cond b (x ∷ xs) xs)
  kept_or_not true x xs p h = (p, h)
  kept_or_not false x xs p h = h

  every_filter : (test : A → Bool) (xs : List A) → AllByRecursion P xs → AllByRecursion P (filter test xs)
  every_filter test [] h = tt
  every_filter test (x ∷ xs) h = kept_or_not (test x) x (filter test xs) h.0 (every_filter test xs h.1)

  every_option : (o : Option A) → IfSome o P → AllByRecursion P (option_to_list o)
  every_option None h = tt
  every_option (Some x) h = (h, tt)

-- ---- what bytes spell

encoded_by : (c : ℕ) (b : Bool) → nat_lt c 0x1_0000 ≡ b → c < 0x11_0000 → IsUnits (cond b (c ∷ []) ((0xD800 + (c - 0x1_0000) / 0x400) ∷ (0xDC00 + (c - 0x1_0000) % 0x400) ∷ []))
encoded_by c true test lt = (ltb-true _ _ test, tt)
encoded_by c false test lt = let le = ltb-false _ _ test in (omega (arith, le, lt), (omega (arith, le, lt), tt))

few_scalars : (c : ℕ) → scalar c ≡ true → c < 0x11_0000
few_scalars c e = elim (scalar_cases c e) [ inl h ↦ omega (arith, h) | inr h ↦ h.1 ]

encoded : (c : ℕ) → scalar c ≡ true → IsUnits (encode_utf16 c)
encoded c e = encoded_by c (nat_lt c 0x1_0000) refl (few_scalars c e)

all_encoded : (cs : List ℕ) → scalars cs ≡ true → IsUnits (flat_map encode_utf16 cs)
all_encoded [] e = tt
all_encoded (c ∷ cs) e = every_append (λ unit. unit < 2 ^ 16) (encode_utf16 c) (flat_map encode_utf16 cs) (encoded c (and_left (scalar c) (scalars cs) e)) (all_encoded cs (and_right (scalar c) (scalars cs) e))

units_are : (bytes : List ℕ) → IfSome (units_in bytes) IsUnits
units_are bytes = of_if (is_utf8 bytes) (Some (flat_map encode_utf16 (chars bytes))) IsUnits (λ e. all_encoded (chars bytes) (scalars-chars bytes (IsUtf8-from_is_utf8 bytes e)))

-- ---- lines and words

abbrev pub AreUnits : List (List ℕ) → Type 0
AreUnits words = AllByRecursion IsUnits words

in_front_is : (item : ℕ) (parts : List (List ℕ)) → item < 2 ^ 16 → AreUnits parts → AreUnits (in_front item parts)
in_front_is item [] lt h = ((lt, tt), tt)
in_front_is item (part ∷ parts) lt h = ((lt, h.0), h.1)

parted_by : (item : ℕ) (parts : List (List ℕ)) (b : Bool) → item < 2 ^ 16 → AreUnits parts → AreUnits (cond b ([] ∷ parts) (in_front item parts))
parted_by item parts true lt h = (tt, h)
parted_by item parts false lt h = in_front_is item parts lt h

pieces_are : (separator : ℕ) (items : List ℕ) → IsUnits items → AreUnits (pieces separator items)
pieces_are separator [] h = tt
pieces_are separator (item ∷ items) h = parted_by item (pieces separator items) (item == separator) h.0 (pieces_are separator items h.1)

words_are : (units : List ℕ) → IsUnits units → AreUnits (words_of units)
words_are units h = every_filter IsUnits is_some_word (pieces 32 units) (pieces_are 32 units h)

-- what stands in a line
pub record IsUnitLine (line : Line) : Type 0 where
  pub text : IsUnits line.text
  pub words : AreUnits line.words

spelled_is : (number : ℕ) (o : Option (List ℕ)) → IfSome o IsUnits → IfSome (spelled_line number o) IsUnitLine
spelled_is number None h = record { text = tt; words = tt }
spelled_is number (Some units) h = of_unless (is_passed units) (Some (record { number = number; text = units; words = words_of units })) IsUnitLine (λ e. record { text = h; words = words_are units h })

pub lines_are : (number : ℕ) (parts : List (List ℕ)) → AllByRecursion IsUnitLine (lines_from number parts)
lines_are number [] = tt
lines_are number (bytes ∷ parts) =
    every_append IsUnitLine (option_to_list (line_of number bytes)) (lines_from (number + 1) parts) (every_option IsUnitLine (line_of number bytes) (spelled_is number (units_in bytes) (units_are bytes))) (lines_are (number + 1) parts)

-- ---- the parts of a word

abbrev pub BothUnits : List ℕ × List ℕ → Type 0
BothUnits x = IsUnits x.0 × IsUnits x.1

parts_are : (units : List ℕ) (o : Option ℕ) → IsUnits units → IfSome (option_map (λ end. (take end units, drop (end + 1) units)) o) BothUnits
parts_are units o h = of_map (λ end. (take end units, drop (end + 1) units)) o BothUnits
    (always o (λ end. BothUnits (take end units, drop (end + 1) units)) (λ end. (every_take (λ unit. unit < 2 ^ 16) end units h, every_drop (λ unit. unit < 2 ^ 16) (end + 1) units h)))

pub last_parts_are : (unit : ℕ) (units : List ℕ) → IsUnits units → IfSome (last_parted unit units) BothUnits
last_parts_are unit units h = parts_are units (last_place unit units) h

-- ---- a type that is private to its crate, by a function of it

abbrev pub domain : {A B : Type 0} → (A → B) → Type 0
domain {A} {B} f = A

-- ---- texts in quotes

abbrev State : Type 0
State = domain is_closed

-- The unit that a step makes whole is one.
abbrev IsStep : State × Option ℕ → Type 0
IsStep x = IfSome x.1 (λ unit. unit < 2 ^ 16)

digit_is : (left value : ℕ) → value < 2 ^ 16 → IfSome (next_digit left value) IsStep
digit_is left value lt = of_else (nat_le left 1) _ _ IsStep lt tt

digits_are : (left value unit : ℕ) → IfSome (option_and_then (λ digit. next_digit left ((value * 16 + digit) % 0x1_0000)) (hex_digit unit)) IsStep
digits_are left value unit =
    of_then (λ digit. next_digit left ((value * 16 + digit) % 0x1_0000)) (hex_digit unit) IsStep
    (always (hex_digit unit) (λ digit. IfSome (next_digit left ((value * 16 + digit) % 0x1_0000)) IsStep) (λ digit. digit_is left ((value * 16 + digit) % 0x1_0000) (omega arith)))

step_is : (state : State) (unit : ℕ) → unit < 2 ^ 16 → IfSome (quote_step state unit) IsStep
step_is state unit lt = grind (arith, digits_are)

unquoted_is : (state : State) (units : List ℕ) → IsUnits units → IfSome (unquoted state units) IsUnits
unquoted_is state [] h = of_if (is_closed state) (Some []) IsUnits (λ e. tt)
unquoted_is state (unit ∷ units) h =
    of_then (λ x. option_map (λ text. option_to_list x.1 ++ text) (unquoted x.0 units)) (quote_step state unit) IsUnits
    (weaker (quote_step state unit) IsStep (λ x. IfSome (option_map (λ text. option_to_list x.1 ++ text) (unquoted x.0 units)) IsUnits)
    (λ x whole. of_map (λ text. option_to_list x.1 ++ text) (unquoted x.0 units) IsUnits
    (weaker (unquoted x.0 units) IsUnits (λ text. IsUnits (option_to_list x.1 ++ text))
    (λ text all. every_append (λ unit. unit < 2 ^ 16) (option_to_list x.1) text (every_option (λ unit. unit < 2 ^ 16) x.1 whole) all) (unquoted_is x.0 units h.1))) (step_is state unit h.0))

quoted_by : (state : State) (o : Option (List ℕ × List ℕ)) → IfSome o BothUnits → IfSome (option_and_then (λ x. unquoted state x.1) o) IsUnits
quoted_by state o h = of_then (λ x. unquoted state x.1) o IsUnits (weaker o BothUnits (λ x. IfSome (unquoted state x.1) IsUnits) (λ x units. unquoted_is state x.1 units.1) h)

pub quoted_is : (line : List ℕ) → IsUnits line → IfSome (quoted_in line) IsUnits
quoted_is line h = quoted_by _ (parted_at 34 line) (parts_are line (position (λ other. other == 34) line) h)
