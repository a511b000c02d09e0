use Rattle.std.proofs.Common.{◌≡◌, ℕ, List, ◌++◌, ◌||◌, ◌-◌, length, drop, map, string_bytes}
use Rattle.std.specs.BTreeMap.{IsOrdered}
use Rattle.std.specs.List.{list_any}
use Rattle.std.specs.Str.{bytes_eq}
use Rattle.std.specs.String.{string_cmp}
use Rattle.report_pieces.specs.Groups.{keys_at, kept_at, has_key, places_from}
use Rattle.report_pieces.proofs.groups.places_by_key.Given as goal

abbrev pub invariant-loop-at : goal.invariant-loop-at
invariant-loop-at l = record {
  ordered : IsOrdered string_cmp l.groups;
  lists : (q : List ℕ) → kept_at q l.groups ++ places_from l.at q (keys_at (map string_bytes l.keys) (drop l.at l.numbers)) ≡ places_from 0 q (keys_at (map string_bytes l.keys) l.numbers);
  keys : (q : List ℕ) → (has_key q l.groups || list_any (bytes_eq q) (keys_at (map string_bytes l.keys) (drop l.at l.numbers))) ≡ list_any (bytes_eq q) (keys_at (map string_bytes l.keys) l.numbers);
}

abbrev pub decreases-loop-at : goal.decreases-loop-at
decreases-loop-at l = length l.numbers - l.at
