-- Words, compared and taken apart (this project's own).
use Rattle.std.specs.Prelude.{ℕ, ◌+◌, ◌-◌, ◌==◌, nat_lt, nat_eq, Bool, ◌&&◌, List, [], ◌∷◌, length, take, drop, slice_index, Option, Some, None, if◌then◌else◌}
use Rattle.std.specs.Option.{option_map}
use Rattle.std.specs.Cmp.Lexicographic.{pointwise}

-- The word is this text.
abbrev pub says : List ℕ → List ℕ → Bool
says word text = pointwise nat_eq word text

-- The name of a label in a word that ends with a colon.
abbrev pub label_in : List ℕ → Option (List ℕ)
label_in word =
    if nat_lt 1 (length word) && slice_index word (length word - 1) == 58
    then Some (take (length word - 1) word)
    else None

-- the last place of a unit, where the place before is known
abbrev pub last_from : ℕ → ℕ → Option ℕ → List ℕ → Option ℕ
last_from unit place last [] = last
last_from unit place last (other ∷ units) =
    last_from unit (place + 1) (if other == unit then Some place else last) units

abbrev pub last_place : ℕ → List ℕ → Option ℕ
last_place unit units = last_from unit 0 None units

-- What stands before the last such unit and what stands behind it, if there is one.
abbrev pub last_parted : ℕ → List ℕ → Option (List ℕ × List ℕ)
last_parted unit units =
    option_map (λ end. (take end units, drop (end + 1) units)) (last_place unit units)
