-- Marks of instructions whose lines were reached.
use Rattle.std.specs.Prelude.{◌≡◌, ℕ, Bool, true, false, List, []}
use Rattle.std.proofs.Common.{get_or}
use Rattle.program_rules.specs.Names.{Name}
use Rattle.class_link.specs.Info.{Info}
use Rattle.jvm_lines.specs.Lines.{IsLineReached}

-- The lines of all instructions of a method with a mark were reached.
abbrev pub AreReached : List Info → ℕ → ℕ → List Bool → List (Name × ℕ) → Type 0
AreReached p class method marks rs =
    (at : ℕ) → get_or marks at false ≡ true → IsLineReached p class method at rs

-- The marks of the instructions of a method, by the number of its class and its place there.
pub record Marked : Type 0 where
  pub class : ℕ
  pub method : ℕ
  pub marks : List Bool

-- No instruction has one.
abbrev pub unmarked : Marked
unmarked = record { class = 0; method = 0; marks = [] }

-- The lines of all that have a mark were reached.
abbrev pub IsMarkedRight : List Info → Marked → List (Name × ℕ) → Type 0
IsMarkedRight p m rs = AreReached p m.class m.method m.marks rs

-- So it is of each method.
abbrev pub AreMarkedRight : List Info → List Marked → List (Name × ℕ) → Type 0
AreMarkedRight p ms rs = (i : ℕ) → IsMarkedRight p (get_or ms i unmarked) rs

-- Where the line of this instruction was reached, marks that were right are so with it.
abbrev pub Marks : ℕ → ℕ → ℕ → Marked → Marked → Type 0
Marks class method at old new =
    (p : List Info) (rs : List (Name × ℕ)) → IsMarkedRight p old rs →
    IsLineReached p class method at rs → IsMarkedRight p new rs

-- So it is of each method's.
abbrev pub MarksIn : ℕ → ℕ → ℕ → List Marked → List Marked → Type 0
MarksIn class method at old new =
    (i : ℕ) → Marks class method at (get_or old i unmarked) (get_or new i unmarked)
