-- The files of a report: the places of a list that have the same key (this project's own).
use Rattle.std.specs.Prelude.{◌≡◌, ℕ, suc, zero, ◌+◌, ◌<◌, ◌≤◌, List, [], ◌∷◌, map, if◌then◌else◌, length, slice_get, slice_index, Bool, is_some, String, string_bytes, Vec}
use Rattle.std.specs.declared.alloc.Global.{Global}
use Rattle.std.specs.Option.{option_map_or}
use Rattle.std.specs.Str.{bytes_eq}
use Rattle.std.specs.BTreeMap.{BTreeMap, get_by_text}
use Rattle.report_schema.specs.Keyed.{different}
use Rattle.report_pieces.specs.declared.input.Group.{Group}

abbrev pub Key : Type 0
Key = List ℕ

-- The places that have a key, where the first place has this number.
abbrev pub places_from : ℕ → Key → List Key → List ℕ
places_from at key [] = []
places_from at key (other ∷ keys) =
    if bytes_eq key other then at ∷ places_from (at + 1) key keys else places_from (at + 1) key keys

-- A key with its places.
abbrev pub group_of : List Key → Key → Group
group_of keys key = record { key = key; numbers = places_from 0 key keys }

-- Each different key with its places, in byte order of the keys.
abbrev pub groups_of : List Key → List Group
groups_of keys = map (group_of keys) (different keys)

-- ---- keys that are named by numbers

-- the key of a number, empty where there is none
abbrev pub key_at : List Key → ℕ → Key
key_at keys number = option_map_or (λ key. key) (slice_get keys number) []

abbrev pub keys_at : List Key → List ℕ → List Key
keys_at keys numbers = map (key_at keys) numbers

-- ---- for private clauses

-- so many numbers, from one on
abbrev pub count_from : ℕ → ℕ → List ℕ
count_from from zero = []
count_from from (suc count) = from ∷ count_from (from + 1) count

-- all numbers from one place up to another are the same
pub record IsRun (numbers : List ℕ) (at end : ℕ) : Type 0 where
  pub some : at < end
  pub within : end ≤ length numbers
  pub same : (k : ℕ) → at ≤ k → k < end → slice_index numbers k ≡ slice_index numbers at

-- the places that a map keeps at a key, none where it lacks the key
abbrev pub kept_at : Key → BTreeMap (String Global) (Vec ℕ Global) → List ℕ
kept_at key groups = option_map_or (λ list. list.items) (get_by_text groups key) []

abbrev pub has_key : Key → BTreeMap (String Global) (Vec ℕ Global) → Bool
has_key key groups = is_some (get_by_text groups key)

abbrev pub as_group : String Global × Vec ℕ Global → Group
as_group kept = record { key = string_bytes kept.0; numbers = kept.1.items }

abbrev pub as_groups : List (String Global × Vec ℕ Global) → List Group
as_groups kept = map as_group kept
