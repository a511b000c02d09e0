-- The program of a suite is as the laws of accepted programs ask, and so are the tests that are
-- found.
use Rattle.std.specs.Prelude.{◌≡◌, ℕ, List, All, Ok}
use Rattle.class_model.specs.declared.class.Class.{Class}
use Rattle.class_reader.specs.Spells.{IsClass}
use Rattle.program_rules.specs.Names.{Name}
use Rattle.machine_laws.specs.Consulted.{IsLibraryWhole}
use Rattle.class_link.specs.Info.{Info}
use Rattle.class_table.specs.declared.scripted.Test.{Test}
use Rattle.class_table.specs.Table.{look, names, IsProgram}
use Rattle.test_discovery.specs.Discovery.{Tests}
use Rattle.suite_program.specs.Below.{files_of}
use Rattle.suite_program.specs.Below.{IsReady}
use Rattle.suite_laws.specs.Accepted.{IsSafe, FitsProgram}
use Rattle.library_laws.specs.Beside.{program_of}
use Rattle.suite_program.specs.Programs.{class_file, names_in}

-- A program that was built of these class files and the library, and accepted.
pub record IsOfSuite (classes : List Class) (p : List Info) : Type 0 where
  pub spelled : All IsClass classes
  pub program : IsProgram p
  pub ready : IsReady p
  pub look : look p ≡ program_of classes
  pub files : files_of p ≡ class_file classes
  pub names : names p ≡ names_in classes

abbrev pub SuitesAreSafe : Type 0
SuitesAreSafe =
    (classes : List Class) (p : List Info) → IsOfSuite classes p → IsSafe p × IsLibraryWhole (look p)

-- The tests that are found fit the program.
abbrev pub FoundTestsFit : Type 0
FoundTestsFit =
    (classes : List Class) (p : List Info) (most : ℕ) (names : List Name) (ts : List Test) →
    IsOfSuite classes p → Tests most (files_of p) names ≡ Ok ts → All (FitsProgram p) ts
