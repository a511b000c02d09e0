-- The different keys among some keys.
use Rattle.std.specs.Prelude.{ℕ, List, [], ◌∷◌}
use Rattle.std.specs.BTreeSet.{insert_key}
use Rattle.std.specs.Cmp.Lexicographic.{slice_cmp}
use Rattle.std.specs.Ordering.{nat_cmp}

-- They stand in byte order.
abbrev pub different : List (List ℕ) → List (List ℕ)
different [] = []
different (key ∷ keys) = insert_key (slice_cmp nat_cmp) (different keys) key
