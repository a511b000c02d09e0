-- Texts in double quotes: `\"`, `\\` and `\uXXXX` stand for a quote, a backslash and a code unit
-- (this project's own).
use Rattle.std.specs.Prelude.{ℕ, ◌+◌, ◌-◌, ◌*◌, ◌%◌, ◌==◌, nat_le, Bool, true, false, ◌&&◌, ◌||◌, List, [], ◌∷◌, ◌++◌, Option, Some, None, option_to_list, option_and_then, if◌then◌else◌}
use Rattle.std.specs.Option.{option_map}
use Rattle.class_model.specs.Parting.{parted_at}
use Rattle.asm_words.specs.declared.quoted.Quote.{Quote}
use Rattle.asm_words.specs.declared.quoted.Quote.TheVariants as quote

abbrev pub is_within : ℕ → ℕ → ℕ → Bool
is_within low high unit = nat_le low unit && nat_le unit high

abbrev pub hex_digit : ℕ → Option ℕ
hex_digit unit =
    if is_within 48 57 unit then Some (unit - 48)
    else if is_within 65 70 unit then Some (unit - 55)
    else if is_within 97 102 unit then Some (unit - 87)
    else None

abbrev pub next_digit : ℕ → ℕ → Option (Quote × Option ℕ)
next_digit left value =
    if nat_le left 1 then Some (quote.Open, Some value)
    else Some (quote.Digits (left - 1) value, None)

-- What follows a state at a unit, with the unit of the text that is whole then.
abbrev pub quote_step : Quote → ℕ → Option (Quote × Option ℕ)
quote_step quote.Open unit =
    if unit == 34 then Some (quote.Closed, None)
    else if unit == 92 then Some (quote.Escape, None) else Some (quote.Open, Some unit)
quote_step quote.Escape unit =
    if unit == 34 || unit == 92 then Some (quote.Open, Some unit)
    else if unit == 117 then Some (quote.Digits 4 0, None) else None
quote_step (quote.Digits left value) unit =
    option_and_then (λ digit. next_digit left ((value * 16 + digit) % 0x1_0000)) (hex_digit unit)
quote_step quote.Closed unit = if unit == 32 then Some (quote.Closed, None) else None

abbrev pub is_closed : Quote → Bool
is_closed quote.Closed = true
is_closed other = false

-- The text that units behind a state spell, where nothing but spaces stands behind the closing
-- quote.
abbrev pub unquoted : Quote → List ℕ → Option (List ℕ)
unquoted state [] = if is_closed state then Some [] else None
unquoted state (unit ∷ units) =
    option_and_then (λ x. option_map (λ text. option_to_list x.1 ++ text) (unquoted x.0 units))
    (quote_step state unit)

abbrev pub begins_quoted : List ℕ → Bool
begins_quoted [] = false
begins_quoted (first ∷ units) = first == 34

-- The first of the words begins with a quote.
abbrev pub is_quoted : List (List ℕ) → Bool
is_quoted [] = false
is_quoted (first ∷ words) = begins_quoted first

-- The text between quotes that ends a line.
abbrev pub quoted_in : List ℕ → Option (List ℕ)
quoted_in line = option_and_then (λ x. unquoted quote.Open x.1) (parted_at 34 line)
