-- A tree of files: a map from paths to contents, both lists of bytes, with the paths in byte order.
-- This project's own.
use Rattle.std.specs.Prelude.{ℕ, List, [], ◌∷◌, ◌++◌, Bool, filter, length, Option, option_map}
use Rattle.std.specs.Bool.{nat_eq}
use Rattle.std.specs.Ordering.{nat_cmp}
use Rattle.std.specs.Cmp.Lexicographic.{slice_cmp}
use Rattle.std.specs.List.{starts_with}
use Rattle.std.specs.FinMap.{FinMap, keys, get}

abbrev pub Files : Type 0
Files = FinMap (slice_cmp nat_cmp) (List ℕ)

abbrev pub begins_with : List ℕ → List ℕ → Bool
begins_with front path = starts_with nat_eq path front

-- the byte of `/`
abbrev pub slash : ℕ
slash = 47

-- the paths below a folder, in byte order
abbrev pub listed : List ℕ → Files → List (List ℕ)
listed folder files = filter (begins_with (folder ++ slash ∷ [])) (keys files)

-- how many bytes a path holds, if it is held
abbrev pub length_at : List ℕ → Files → Option ℕ
length_at path files = option_map length (get files path)
