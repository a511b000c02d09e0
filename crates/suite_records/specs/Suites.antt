-- The runs of a suite and of its mutants, as records see them (this project's own).
use Rattle.std.specs.Prelude.{◌≡◌, ℕ, List, [], ◌∷◌, All, Some, None, if◌then◌else◌}
use Rattle.class_model.specs.declared.class.Class.{Class}
use Rattle.class_reader.specs.Spells.{Spells}
use Rattle.program_rules.specs.Names.{same}
use Rattle.program_rules.specs.Programs.{Look}
use Rattle.machine_rules.specs.declared.machine.Limits.{Limits}
use Rattle.class_order.specs.Ranks.{IsOrdered}
use Rattle.class_link.specs.declared.loaded.Loaded.{Loaded}
use Rattle.class_link.specs.Info.{Info, own_name}
use Rattle.class_table.specs.declared.scripted.Test.{Test}
use Rattle.class_table.specs.Table.{look}
use Rattle.jvm_world.specs.View.{test_of}
use Rattle.suite_laws.specs.Below.{classes_in, with_class}
use Rattle.suite_laws.specs.Suites.{IsOfSuite}
use Rattle.record_rules.specs.Profiles.{Held}
use Rattle.record_rules.specs.Records.{Asked}
use Rattle.reuse_laws.specs.Asking.{IsAsked, AreSpelled}
use Rattle.class_records.specs.Profile.{profile}

-- ---- class files by name

-- The bytes of each name: those of the first of these class files that has it.
abbrev pub bytes_of : List Loaded → Held
bytes_of [] n = None
bytes_of (l ∷ ls) n = if same (own_name l.class) n then Some l.bytes else bytes_of ls n

-- The same with the class file of one name in the place of what stood there.
abbrev pub put_file : Class × List ℕ → Held → Held
put_file made held n = if same n (own_name made.0) then Some made.1 else held n

-- A program that was built of these class files and of the library, and accepted.
pub record IsSuite (files : List Loaded) (p : List Info) : Type 0 where
  pub read : All (λ l. Spells l.bytes l.class) files
  pub of : IsOfSuite (classes_in files) p

-- ---- runs

abbrev pub asked_on : Look → Held → Test → Limits → ℕ → Asked
asked_on p held t q limit = record {
  look = p;
  held = held;
  test = test_of t;
  limits = q;
  limit = limit;
}

-- The run of a test on the program of a suite.
abbrev pub original_asked : List Loaded → List Info → Test → Limits → ℕ → Asked
original_asked files p t q limit = asked_on (look p) (bytes_of files) t q limit

-- The run of a test on the program in which a mutant's edited class, with its bytes, stands.
abbrev pub mutant_asked :
    List Loaded → List Info → Class × List ℕ → Test → Limits → ℕ → Asked
mutant_asked files p made t q limit =
    asked_on (with_class made.0 (look p)) (put_file made (bytes_of files)) t q limit

-- The test is the one that these class files have of its class and method.
abbrev pub IsOwnTest : List Loaded → Test → Type 0
IsOwnTest files t = profile.test (bytes_of files) t.class t.method ≡ Some (test_of t)

-- All that the laws of reuse ask of a run: its program is that of its class files, none has a name
-- of the library, the test is theirs; each spells a class of its name; no class has a fault of
-- supers.
pub record IsReusable (x : Asked) : Type 0 where
  pub asked : IsAsked profile x
  pub spelled : AreSpelled profile x.held
  pub ordered : IsOrdered x.look
