-- The program of the classes of a suite and of the library (this project's own).
use Rattle.std.specs.Prelude.{◌≡◌, ℕ, ◌<◌, List, [], ◌∷◌, ◌++◌, map, length, All, Some, None, if◌then◌else◌, slice_get, option_and_then}
use Rattle.class_model.specs.declared.class.Class.{Class}
use Rattle.class_reader.specs.Spells.{IsClass}
use Rattle.program_rules.specs.Names.{Name, same}
use Rattle.class_link.specs.Info.{Info, file_in, own_name}
use Rattle.class_link.specs.declared.loaded.LibClass.{LibClass}
use Rattle.class_link.specs.declared.loaded.Loaded.{Loaded}
use Rattle.class_table.specs.Table.{bodies, bodies_of}
use Rattle.lib_table.specs.Library.{library_meant}
pub use Rattle.library_laws.specs.Beside.{program_of}
use Rattle.mutant_runs.specs.Programs.{ClassFiles}

abbrev pub classes_in : List Loaded → List Class
classes_in loaded = map (λ l. l.class) loaded

-- Each class file has a spelling, as each that was read has.
abbrev pub AreSpelled : List Loaded → Type 0
AreSpelled loaded = All (λ l. IsClass l.class) loaded

-- The class file of each name: the first of these classes that has it.
abbrev pub class_file : List Class → ClassFiles
class_file [] n = None
class_file (c ∷ cs) n = if same (own_name c) n then Some c else class_file cs n

-- The names of the classes and of the library's.
abbrev pub names_in : List Class → List Name
names_in classes = map own_name classes ++ map (λ c. c.0) library_meant

-- The class files of a program have the first numbers, in order.
abbrev pub HaveFirstNumbers : List Info → List Class → Type 0
HaveFirstNumbers p classes =
    (k : ℕ) → k < length classes → option_and_then file_in (slice_get p k) ≡ slice_get classes k

-- A program is made of these class files, in order and with their bytes, and then of classes of the
-- library.
pub record IsMadeOf (classes : List Loaded) (p : List Info) : Type 0 where
  pub library : List LibClass
  pub made : bodies p ≡ bodies_of classes library
