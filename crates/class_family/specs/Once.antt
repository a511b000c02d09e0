-- Names, each once.
use Rattle.std.specs.Prelude.{not, List, [], ◌∷◌}
use Rattle.std.specs.List.{filter}
use Rattle.program_rules.specs.Names.{Name, same}

-- These names, each once, in the order in which they are first met.
abbrev pub each_once : List Name → List Name
each_once [] = []
each_once (n ∷ ns) = n ∷ filter (λ m. not (same n m)) (each_once ns)
