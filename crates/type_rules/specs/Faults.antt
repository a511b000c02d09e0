-- The first fault of a class, found (this project's own). By the rules it is the one that
-- `IsFirstInClass` says, and there is none exactly where the class is accepted.
use Rattle.std.specs.Prelude.{ℕ, suc, if◌then◌else◌, List, [], ◌∷◌, Option, Some, None}
use Rattle.program_rules.specs.Names.{Name}
use Rattle.program_rules.specs.Linked.{Linked, LinkedMethod}
use Rattle.program_rules.specs.Programs.{Look}
use Rattle.type_rules.specs.References.{Classes, classes_of}
use Rattle.type_rules.specs.Rules.{MethodFault, method_fault}

-- The place of a method in its class, and the fault of that method.
abbrev pub Placed : Type 0
Placed = ℕ × MethodFault

-- The fault of the method at a place, else of one behind it.
abbrev pub placed_or : ℕ → Option MethodFault → Option Placed → Option Placed
placed_or k None others = others
placed_or k (Some f) others = Some (k, f)

-- The first fault of these methods of a class, of which the first is at this place.
abbrev pub first_fault_from :
    Classes → Name → Linked → ℕ → List LinkedMethod → Option Placed
first_fault_from p n c k [] = None
first_fault_from p n c k (m ∷ ms) =
    placed_or k (method_fault p n c k m) (first_fault_from p n c (suc k) ms)

-- Of the library nothing is told: that it is accepted is shown once for all programs.
abbrev pub fault_in : Classes → Name → Option Linked → Option Placed
fault_in p n None = None
fault_in p n (Some c) = if c.library then None else first_fault_from p n c 0 c.methods

-- The first fault of the class of a name.
unfoldable pub class_fault : Look → Name → Option Placed
class_fault p n = fault_in (classes_of p) n (p n)
