-- The consulted names and the reached lines of a record in a history (this project's own).
use Rattle.std.specs.Prelude.{◌≡◌, ◌<◌, ◌^◌, ℕ, suc, max, Bool, true, not, ◌&&◌, ◌||◌, nat_le}
use Rattle.std.specs.Prelude.{nat_lt, List, ◌∷◌, ◌++◌, length, Option, Some, None, is_some, Ok}
use Rattle.std.specs.Prelude.{slice_get, option_and_then}
use Rattle.std.specs.Int.{w16, w32, to_be_bytes}
use Rattle.codec_rules.specs.Sequence.{◌>>=◌}
use Rattle.program_rules.specs.Names.{Name, is_listed}
use Rattle.history_rules.specs.Items.{FileReader, u2_at, u4_at, where_at, text_where, text_bytes}
use Rattle.history_rules.specs.Items.{IsText}
use Rattle.history_rules.specs.Classes.{number_of, class_of}

-- ---- consulted names

abbrev pub Entry : Type 0
Entry = Name × Option (List ℕ)

-- What is known before an entry: how many classes of the pool count as used, from the first on, and
-- the names of this record.
pub record Used : Type 0 where
  pub classes : ℕ
  pub names : List Name

-- A class number is one of the pool, and past the used ones by one at most.
abbrev pub is_number : List (List ℕ) → ℕ → ℕ → Bool
is_number pool used n = nat_le n (length pool) && nat_le n (suc used)

abbrev pub is_new : List Name → Name → Bool
is_new names name = not (is_listed name names)

unfoldable pub entry_at : List (List ℕ) → Used → FileReader Entry
entry_at pool used input = do
  name ← text_where (is_new used.names) input
  number ← where_at u4_at (is_number pool used.classes) name.1
  Ok ((name.0, class_of pool number.0), number.1)

abbrev pub with_entry : List (List ℕ) → Used → Entry → Used
with_entry pool used e = record {
  classes = max used.classes (number_of pool e.1);
  names = e.0 ∷ used.names;
}

abbrev pub entry_bytes : List (List ℕ) → Entry → List ℕ
entry_bytes pool e = text_bytes e.0 ++ to_be_bytes w32 (number_of pool e.1)

-- Its name is a text that stands in no entry before, and its class is one of the pool, where it is
-- used or is the next one.
pub record IsEntry (pool : List (List ℕ)) (used : Used) (e : Entry) : Type 0 where
  pub name : IsText e.0
  pub fresh : is_new used.names e.0 ≡ true
  pub small : number_of pool e.1 < 2 ^ 32
  pub number : is_number pool used.classes (number_of pool e.1) ≡ true

-- ---- reached lines

-- A place of an entry with a class.
abbrev pub is_present : List Entry → ℕ → Bool
is_present entries k = is_some (option_and_then (λ (e : Entry). e.1) (slice_get entries k))

-- A place is not before that of the last pair; and where it is that, the line is behind its line.
abbrev pub is_place_behind : Option (ℕ × ℕ) → ℕ → Bool
is_place_behind None k = true
is_place_behind (Some last) k = nat_le last.0 k

abbrev pub is_line_behind : Option (ℕ × ℕ) → ℕ → ℕ → Bool
is_line_behind None k line = true
is_line_behind (Some last) k line = nat_lt last.0 k || nat_lt last.1 line

abbrev pub is_place : List Entry → Option (ℕ × ℕ) → ℕ → Bool
is_place entries last k = is_present entries k && is_place_behind last k

unfoldable pub pair_at : List Entry → Option (ℕ × ℕ) → FileReader (ℕ × ℕ)
pair_at entries last input = do
  place ← where_at u4_at (is_place entries last) input
  line ← where_at u2_at (is_line_behind last place.0) place.1
  Ok ((place.0, line.0), line.1)

abbrev pub with_pair : Option (ℕ × ℕ) → ℕ × ℕ → Option (ℕ × ℕ)
with_pair last pair = Some pair

abbrev pub pair_bytes : ℕ × ℕ → List ℕ
pair_bytes pair = to_be_bytes w32 pair.0 ++ to_be_bytes w16 pair.1

pub record IsPair (entries : List Entry) (last : Option (ℕ × ℕ)) (pair : ℕ × ℕ) : Type 0 where
  pub place_fits : pair.0 < 2 ^ 32
  pub place : is_place entries last pair.0 ≡ true
  pub line_fits : pair.1 < 2 ^ 16
  pub line : is_line_behind last pair.0 pair.1 ≡ true
