use Rattle.std.proofs.Common.{◌≡◌, ℕ, List, ◌||◌, map, string_bytes}
use Rattle.std.specs.BTreeSet.{contains_text}
use Rattle.std.specs.List.{list_any}
use Rattle.std.specs.Str.{bytes_eq}
use Rattle.std.specs.Vec.Iter.{into_iter_items}
use Rattle.report_sources.proofs.listed.set_of.Given as goal

abbrev pub invariant-loop-path : goal.invariant-loop-path
invariant-loop-path l = (q : List ℕ) → (contains_text l.set q || list_any (bytes_eq q) (map string_bytes (into_iter_items l.path-iterator))) ≡ list_any (bytes_eq q) (map string_bytes l.fn.paths.items)
