-- The first fault of a class that is found is the one of the rules.
use Rattle.std.specs.Prelude.{◌≡◌, ℕ, true, Some, None, IfSome}
use Rattle.program_rules.specs.Names.{Name}
use Rattle.program_rules.specs.Programs.{Look}
use Rattle.type_rules.specs.Faults.{class_fault}
use Rattle.type_rules.specs.Rules.{MethodFault, ClassAccepted, IsFirstInClass}

-- Of an accepted class none is found.
abbrev pub AcceptedHaveNone : Type 0
AcceptedHaveNone = (p : Look) (n : Name) → ClassAccepted p n → class_fault p n ≡ None

-- A class of which none is found is accepted, if the library's classes are.
abbrev pub FaultlessAreAccepted : Type 0
FaultlessAreAccepted =
    (p : Look) (n : Name) → IfSome (p n) (λ c. c.library ≡ true → ClassAccepted p n) →
    class_fault p n ≡ None → ClassAccepted p n

-- The first fault of a class by the rules is the one that is found.
abbrev pub FirstAreFound : Type 0
FirstAreFound =
    (p : Look) (n : Name) (k : ℕ) (f : MethodFault) → IsFirstInClass p n k f →
    class_fault p n ≡ Some (k, f)
