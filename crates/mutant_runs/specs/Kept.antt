-- What an edit leaves of a program that is accepted.
use Rattle.std.specs.Prelude.{ℕ, List}
use Rattle.program_rules.specs.Programs.{Look}
use Rattle.class_link.specs.Info.{Info}
use Rattle.class_table.specs.Table.{look, IsProgram}
use Rattle.class_table.specs.Faults.{HasRightKinds}
use Rattle.type_rules.specs.Rules.{Accepted, ClassAccepted}
use Rattle.type_laws.specs.Alike.{HeadsAlike}
use Rattle.type_verifier.specs.Programs.{IsLibraryAccepted}
use Rattle.mutant_runs.specs.Put.{IsPut, put}

-- Supers are of the right kinds where programs say the same of each class but its code.
abbrev pub KindsStayRight : Type 0
KindsStayRight = (p p' : Look) → HeadsAlike p p' → HasRightKinds p → HasRightKinds p'

-- So they are with the other class.
abbrev pub PutKeepKinds : Type 0
PutKeepKinds =
    (p : List Info) (id : ℕ) (old new : Info) → IsPut p id old new → HasRightKinds (look p) →
    HasRightKinds (put p id new)

-- The program is accepted where the other class is.
abbrev pub PutStayAccepted : Type 0
PutStayAccepted =
    (p : List Info) (id : ℕ) (old new : Info) → IsPut p id old new → Accepted (look p) →
    ClassAccepted (put p id new) old.name → Accepted (put p id new)

-- The library stays accepted, whether or not the other class is.
abbrev pub PutKeepLibrary : Type 0
PutKeepLibrary =
    (p : List Info) (id : ℕ) (old new : Info) → IsProgram p → IsPut p id old new →
    IsLibraryAccepted (look p) → IsLibraryAccepted (put p id new)
