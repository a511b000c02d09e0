-- The lines of a code by its instructions (this project's own).
use Rattle.std.specs.Prelude.{◌≡◌, ℕ, ◌&&◌, nat_eq, nat_le, if◌then◌else◌, List, [], ◌∷◌, ◌++◌, map, Option, Some, None, slice_get}
use Rattle.std.specs.List.{flat_map}
use Rattle.class_model.specs.declared.attribute.Attr.{Attr}
use Rattle.program_rules.specs.Linked.{LinkedLine, is_later, line_at}
use Rattle.class_link.specs.declared.linked.LinkedLine as made
use Rattle.class_link.specs.Linking.{lines_of, content_of}
use Rattle.class_link.specs.View.{line_of}

-- At each place stands the line of the instruction there.
abbrev pub AreLinesOf : List ℕ → List LinkedLine → Type 0
AreLinesOf lines rows = (at line : ℕ) → slice_get lines at ≡ Some line → line ≡ line_at at rows

-- ---- how they are made. No public clause cites these.

abbrev pub some_or : Option ℕ → Option ℕ → Option ℕ
some_or None other = other
some_or (Some n) other = Some n

-- The line of the last row that starts at an instruction, if one does.
abbrev pub line_from : ℕ → List LinkedLine → Option ℕ
line_from at [] = None
line_from at (r ∷ rs) = some_or (line_from at rs) (if nat_eq r.start at then Some r.line else None)

-- At each place stands the line that starts there.
abbrev pub AreStartsOf : List (Option ℕ) → List LinkedLine → Type 0
AreStartsOf starts rows = (at : ℕ) (start : Option ℕ) → slice_get starts at ≡ Some start → start ≡ line_from at rows

-- One more row, whichever stood there.
abbrev pub NotesStart : List (Option ℕ) → LinkedLine → List (Option ℕ) → Type 0
NotesStart old r new =
    (rows : List LinkedLine) → AreStartsOf old rows → AreStartsOf new (rows ++ r ∷ [])

-- The lines by what starts at each place.
abbrev pub AreLinesFrom : List (Option ℕ) → List ℕ → Type 0
AreLinesFrom starts lines = (rows : List LinkedLine) → AreStartsOf starts rows → AreLinesOf lines rows

-- The row that counts, once this one stands in front.
abbrev pub row_or : ℕ → LinkedLine → Option LinkedLine → Option LinkedLine
row_or at r found = if nat_le r.start at && is_later r found then Some r else found

-- These rows stand behind those that were there.
abbrev pub AddsLines : List made.LinkedLine → List LinkedLine → List made.LinkedLine → Type 0
AddsLines old more new = map line_of new ≡ map line_of old ++ more

-- The rows of an attribute, and those of the attributes of a code.
abbrev pub lines_at : Attr → List LinkedLine
lines_at a = lines_of (content_of a)

abbrev pub lines_in : List Attr → List LinkedLine
lines_in attrs = flat_map lines_at attrs
