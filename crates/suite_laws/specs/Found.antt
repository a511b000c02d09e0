-- The tests that are found have scripts whose calls find their methods (this project's own).
use Rattle.std.specs.Prelude.{◌≡◌, ℕ, List, All, Some, None, Ok}
use Rattle.class_model.specs.declared.class.Class.{Class}
use Rattle.program_rules.specs.Names.{Name}
use Rattle.program_rules.specs.Programs.{Look}
use Rattle.type_rules.specs.Rules.{Accepted}
use Rattle.type_laws.specs.States.{ScriptFits}
use Rattle.class_link.specs.Info.{Info, own_name}
use Rattle.class_link.specs.Linking.{link}
use Rattle.class_order.specs.Ranks.{HasRanks}
use Rattle.class_table.specs.declared.scripted.Test.{Test}
use Rattle.class_table.specs.Table.{IsProgram, look}
use Rattle.jvm_world.specs.View.{test_of}
use Rattle.test_discovery.specs.Listed.{Files, files_of}
use Rattle.test_discovery.specs.Discovery.{Tests}

-- The class file of a name gives its class that name, and the name means what it says.
pub record AreFilesOf (p : Look) (files : Files) : Type 0 where
  pub named : (n : Name) (c : Class) → files n ≡ Some c → own_name c ≡ n
  pub meant : (n : Name) (c : Class) → files n ≡ Some c → p n ≡ Some (link c)

-- The calls of each test's script find their methods.
abbrev pub ScriptsFit : Look → List Test → Type 0
ScriptsFit p tests = All (λ t. ScriptFits p None (test_of t).script) tests

-- So it is of the tests that are found among class files, where no class stands above itself and
-- all code is accepted. Nothing is asked of what has no class file.
abbrev pub FoundScriptsFit : Type 0
FoundScriptsFit =
    (p : Look) (files : Files) (most : ℕ) (names : List Name) (tests : List Test) →
    AreFilesOf p files → HasRanks p → Accepted p → Tests most files names ≡ Ok tests →
    ScriptsFit p tests

-- The class files of a program are files of what its names mean.
abbrev pub ProgramsHaveFiles : Type 0
ProgramsHaveFiles = (p : List Info) → IsProgram p → AreFilesOf (look p) (files_of p)

-- So it is of the tests that are found among the class files of a program whose code is accepted.
abbrev pub FoundInProgramsFit : Type 0
FoundInProgramsFit =
    (p : List Info) (files : Files) (most : ℕ) (names : List Name) (tests : List Test) →
    IsProgram p → files_of p ≡ files → Accepted (look p) → Tests most files names ≡ Ok tests →
    ScriptsFit (look p) tests
