-- What class files mean to records: the class that bytes spell, the library that comes with the
-- machine, which methods are tests, and which class files are a program (this project's own).
use Rattle.std.specs.Prelude.{ℕ, Bool, not, ◌&&◌, ◌||◌, List, [], ◌∷◌, ◌++◌, map, length, Option}
use Rattle.std.specs.Prelude.{Some, None, is_none, option_and_then, if◌then◌else◌, true}
use Rattle.std.specs.List.{list_all}
use Rattle.std.specs.Option.{option_map}
use Rattle.std.specs.Result.{result_ok}
use Rattle.class_model.specs.declared.class.Class.{Class}
use Rattle.class_reader.specs.Reading.{class_of_file}
use Rattle.program_rules.specs.Names.{Name, same, is_listed}
use Rattle.program_rules.specs.Linked.{Linked}
use Rattle.program_rules.specs.Programs.{Look}
use Rattle.program_rules.specs.Library.{class_among, first_of}
use Rattle.program_rules.specs.Tests.{Test}
use Rattle.class_order.specs.Supers.{is_super_missing, is_super_of_wrong_kind}
use Rattle.class_link.specs.Info.{own_name}
use Rattle.class_link.specs.Linking.{link}
use Rattle.lib_table.specs.Library.{library_meant}
use Rattle.jvm_world.specs.View.{test_of}
use Rattle.test_discovery.specs.Listed.{Files, rising}
use Rattle.test_discovery.specs.Scripts.{TestOf}
use Rattle.record_rules.specs.Profiles.{Held, Profile}
use Rattle.record_rules.specs.Truth.{held_in}
use Rattle.record_forms.specs.Building.{is_above}

-- ---- classes

-- The class, if it has this name.
abbrev pub with_name : Name → Class → Option Class
with_name n c = if same (own_name c) n then Some c else None

-- The class that bytes spell, if it has this name.
unfoldable pub file_of : Name → List ℕ → Option Class
file_of n bytes = option_and_then (with_name n) (result_ok (class_of_file bytes))

-- The same as it is linked.
abbrev pub class_meant : Name → List ℕ → Option Linked
class_meant n bytes = option_map link (file_of n bytes)

-- The class files by their names.
abbrev pub files_held : Held → Files
files_held held n = option_and_then (file_of n) (held n)

-- The program of class files and the library.
abbrev pub look_held : Held → Look
look_held held n =
    first_of (option_and_then (class_meant n) (held n)) (class_among library_meant n)

-- ---- tests

-- More than the superclasses of any class: a program has fewer classes.
abbrev pub most_superclasses : ℕ
most_superclasses = 4294967296

-- The test of a method, from its class and the superclasses of that alone.
abbrev pub test_found : Held → Name → Name → Option Test
test_found held class method =
    option_map test_of (TestOf (rising most_superclasses (files_held held) class) method)

-- ---- programs

-- Names that differ from each other.
abbrev pub are_different : List Name → Bool
are_different [] = true
are_different (n ∷ ns) = not (is_listed n ns) && are_different ns

-- The class files by name, each first one.
abbrev pub held_files : List (Name × List ℕ) → Held
held_files files = held_in (map (λ f. (f.0, Some f.1)) files)

-- No class file has the name of a library class.
abbrev pub are_apart : List (Name × List ℕ) → Bool
are_apart files = list_all (λ f. is_none (class_among library_meant f.0)) files

-- The names of class files, and those of the library.
abbrev pub names_with : List (Name × List ℕ) → List Name
names_with files = map (λ f. f.0) files ++ map (λ c. c.0) library_meant

-- A class of a program whose classes have these names has a super that is missing, stands above
-- itself, or has a super of a wrong kind.
abbrev pub has_super_fault : Look → List Name → Name → Bool
has_super_fault p ns n =
    is_super_missing p n || (is_above p (length ns) n n || is_super_of_wrong_kind p n)

-- No class of a program, whose classes have these names, has such a fault.
abbrev pub are_right_supers : Look → List Name → Bool
are_right_supers p ns = list_all (λ n. not (has_super_fault p ns n)) ns

-- Class files are a program with the library: no two classes have one name, and none has a fault of
-- supers.
unfoldable pub is_program : List (Name × List ℕ) → Bool
is_program files =
    are_different (map (λ f. f.0) files)
    && (are_apart files && are_right_supers (look_held (held_files files)) (names_with files))

-- ---- all

abbrev pub profile : Profile
profile = record {
  class = class_meant;
  library = class_among library_meant;
  test = test_found;
  builds = is_program;
}
