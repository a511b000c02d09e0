-- Names that stand twice, and the least of names (this project's own).
use Rattle.std.specs.Prelude.{List, [], ◌∷◌, Option, Some, None, if◌then◌else◌}
use Rattle.std.specs.List.{list_any}
use Rattle.class_table.specs.Numbers.{lesser}
use Rattle.program_rules.specs.Names.{Name, same}

-- Each name that stands once more behind its place.
abbrev pub again : List Name → List Name
again [] = []
again (n ∷ ns) = if list_any (same n) ns then n ∷ again ns else again ns

-- The least of names, in the order of their bytes in modified UTF-8.
abbrev pub least : List Name → Option Name
least [] = None
least (n ∷ ns) = Some (lesser (least ns) n)

abbrev pub duplicate_in : List Name → Option Name
duplicate_in ns = least (again ns)
