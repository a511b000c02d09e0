-- How labels are looked up by their names (this project's own). No public clause cites these.
use Rattle.std.specs.Prelude.{◌≡◌, ℕ, Bool, List, position}
use Rattle.std.specs.BTreeMap.{BTreeMap, get}
use Rattle.std.specs.Cmp.Lexicographic.{slice_cmp}
use Rattle.std.specs.declared.cmp.Ordering.{Ordering}
use Rattle.std.specs.Ordering.{nat_cmp}
use Rattle.asm_words.specs.Words.{says}
use Rattle.asm_words.specs.declared.known_labels.Label.{Label}

-- The label has this name.
abbrev pub has_name : List ℕ → Label → Bool
has_name name label = says label.name name

-- Names in order, unit by unit.
abbrev pub by_units : List ℕ → List ℕ → Ordering
by_units = slice_cmp nat_cmp

-- The map has the place of the first label of each name, and nothing else.
abbrev pub HasFirstPlaces : BTreeMap (List ℕ) ℕ → List Label → Type 0
HasFirstPlaces places labels =
    (name : List ℕ) → get by_units places name ≡ position (has_name name) labels
