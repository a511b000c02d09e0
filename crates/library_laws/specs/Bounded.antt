-- The codes of the library's table.
use Rattle.std.specs.Prelude.{List, All}
use Rattle.program_rules.specs.Names.{Name}
use Rattle.program_rules.specs.Linked.{Linked}
use Rattle.type_laws.specs.Bounds.{HasBoundedCodes}

-- All codes of these classes are within the bounds of a class file.
abbrev pub AreBounded : List (Name × Linked) → Type 0
AreBounded cs = All (λ x. HasBoundedCodes x.1) cs
