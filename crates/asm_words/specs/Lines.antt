-- The lines of a text, and their words (this project's own). A line ends with a line feed or with
-- the text, is UTF-8 (RFC 3629), and has its words between spaces.
use Rattle.std.specs.Prelude.{ℕ, ◌+◌, ◌==◌, Bool, not, ◌||◌, List, [], ◌∷◌, ◌++◌, length, filter, slice_index, Option, Some, None, option_to_list, if◌then◌else◌}
use Rattle.std.specs.List.{flat_map}
use Rattle.std.specs.Str.{chars, is_utf8}
use Rattle.std.specs.Char.Escape.{encode_utf16}
use Rattle.asm_words.specs.declared.line.Line.{Line}

-- The code units of bytes that are UTF-8.
abbrev pub units_in : List ℕ → Option (List ℕ)
units_in bytes = if is_utf8 bytes then Some (flat_map encode_utf16 (chars bytes)) else None

-- ---- items with separators among them

abbrev pub in_front : {A : Type 0} → A → List (List A) → List (List A)
in_front item [] = (item ∷ []) ∷ []
in_front item (piece ∷ others) = (item ∷ piece) ∷ others

-- The pieces that end with a separator or with the list.
abbrev pub pieces : ℕ → List ℕ → List (List ℕ)
pieces separator [] = []
pieces separator (item ∷ items) =
    if item == separator then [] ∷ pieces separator items
    else in_front item (pieces separator items)

abbrev pub is_some_word : List ℕ → Bool
is_some_word word = not (length word == 0)

-- what spaces part
abbrev pub words_of : List ℕ → List (List ℕ)
words_of units = filter is_some_word (pieces 32 units)

-- ---- lines

-- A blank line, or one that begins with `#`.
abbrev pub is_passed : List ℕ → Bool
is_passed units = length (words_of units) == 0 || slice_index units 0 == 35

abbrev pub spelled_line : ℕ → Option (List ℕ) → Option Line
spelled_line number None = Some (record { number = number; text = []; words = [] })
spelled_line number (Some units) =
    if is_passed units then None
    else Some (record { number = number; text = units; words = words_of units })

-- A line by its number and its bytes; none where it is passed over. One that is not UTF-8 has no
-- words.
abbrev pub line_of : ℕ → List ℕ → Option Line
line_of number bytes = spelled_line number (units_in bytes)

-- The lines from this number on.
abbrev pub lines_from : ℕ → List (List ℕ) → List Line
lines_from number [] = []
lines_from number (bytes ∷ others) =
    option_to_list (line_of number bytes) ++ lines_from (number + 1) others
