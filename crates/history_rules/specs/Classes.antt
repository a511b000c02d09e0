-- The classes of a history: bytes, all different, numbered from 1 (this project's own).
use Rattle.std.specs.Prelude.{◌≡◌, ◌<◌, ◌+◌, ◌^◌, ℕ, zero, suc, Bool, false, not, List, [], ◌∷◌}
use Rattle.std.specs.Prelude.{◌++◌, length, Option, Some, None, slice_get, if◌then◌else◌}
use Rattle.std.specs.Int.{w32, to_be_bytes}
use Rattle.codec_rules.specs.Sequence.{◌>>=◌}
use Rattle.program_rules.specs.Names.{same, is_listed}
use Rattle.history_rules.specs.Items.{FileReader, u4_at, take_at, where_at}

-- The length of a class, and its bytes; one that is equal to another before it is told at the first
-- byte behind the length.
abbrev pub is_other_class : List (List ℕ) → List ℕ → Bool
is_other_class before class = not (is_listed class before)

unfoldable pub class_at : List (List ℕ) → FileReader (List ℕ)
class_at before input =
    u4_at input >>= λ len. where_at (take_at len.0) (is_other_class before) len.1

abbrev pub class_bytes : List ℕ → List ℕ
class_bytes class = to_be_bytes w32 (length class) ++ class

abbrev pub IsClassBehind : List (List ℕ) → List ℕ → Type 0
IsClassBehind before class = (length class < 2 ^ 32) × (is_listed class before ≡ false)

-- The classes before the next one.
abbrev pub with_class : List (List ℕ) → List ℕ → List (List ℕ)
with_class before class = before ++ class ∷ []

-- ---- numbers

-- The number of a class: how many stand before it, and one more; 0 where there is none.
abbrev pub place_of : List (List ℕ) → List ℕ → ℕ
place_of [] class = zero
place_of (c ∷ cs) class = if same c class then zero else suc (place_of cs class)

abbrev pub number_of : List (List ℕ) → Option (List ℕ) → ℕ
number_of pool None = zero
number_of pool (Some class) = suc (place_of pool class)

-- The class of a number.
abbrev pub class_of : List (List ℕ) → ℕ → Option (List ℕ)
class_of pool zero = None
class_of pool (suc k) = slice_get pool k

-- The place of the class of a number in the file, counted from the place of the first.
abbrev pub place_behind : ℕ → List (List ℕ) → ℕ → ℕ
place_behind at [] k = at
place_behind at (c ∷ cs) zero = at
place_behind at (c ∷ cs) (suc k) = place_behind (at + (4 + length c)) cs k
