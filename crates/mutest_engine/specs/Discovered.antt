-- The tests of a suite: those of its tests folder, in the manner of JUnit, or why they are refused
-- (this project's own).
use Rattle.std.specs.Prelude.{◌≡◌, ℕ, List, nat_lt, length, map, Result, Ok, Err, if◌then◌else◌}
use Rattle.class_model.specs.declared.class.Class.{Class}
use Rattle.program_rules.specs.Names.{Name}
use Rattle.class_link.specs.Info.{Info, own_name}
use Rattle.class_table.specs.Table.{name_at}
use Rattle.class_table.specs.declared.scripted.Test.{Test}
use Rattle.test_discovery.specs.Discovery.{Tests}
use Rattle.test_discovery.specs.Listed.{Files, files_of}
use Rattle.test_discovery.specs.declared.fault.TestFault.{TestFault}
use Rattle.test_discovery.specs.declared.fault.TestFault.TheVariants as fault
use Rattle.mutest_engine.specs.Steps.{and_then}
use Rattle.mutest_engine.specs.Numbers.{numbers_from}
use Rattle.suite_runs.specs.Below.{classes_in, class_file, names_in}
use Rattle.mutest_engine.specs.Linked.{all_classes}
use Rattle.mutest_engine.specs.declared.suite.LoadedSuite.{LoadedSuite}
use Rattle.mutest_engine.specs.declared.stop.Stop.{Stop}
use Rattle.mutest_engine.specs.declared.stop.Stop.TheVariants as stop
use Rattle.mutest_engine.specs.declared.refusal.Refusal.{Refusal}
use Rattle.mutest_engine.specs.declared.refusal.Refusal.TheVariants.{BadTest, TooMany}
use Rattle.mutest_engine.specs.declared.refusal.Limit.TheVariants as limit

-- ---- why they are refused

-- By a fault of a class, as it is.
abbrev pub or_bad_test : Result (List Test) TestFault → Result (List Test) Refusal
or_bad_test (Ok tests) = Ok tests
or_bad_test (Err fault) = Err (BadTest fault)

-- The same by the fault that the code finds; want of memory is none.
abbrev pub IsStopOfTest : TestFault → Stop → Type 0
IsStopOfTest fault.Memory s = s ≡ stop.WantOfMemory
IsStopOfTest f s = s ≡ stop.Refused (BadTest f)

-- More than 65,535 tests are refused.
abbrev pub refuse_many_tests : ℕ → Result (Unit {0}) Refusal
refuse_many_tests count = if nat_lt 65535 count then Err (TooMany limit.Tests 65536) else Ok tt

abbrev pub few_of : List Test → Result (List Test) Refusal
few_of tests = and_then (refuse_many_tests (length tests)) (λ few. Ok tests)

-- What a search found: a fault of a class is told before their number.
abbrev pub few_found : Result (List Test) TestFault → Result (List Test) Refusal
few_found found = and_then (or_bad_test found) few_of

-- ---- the tests

-- Those of the classes of these names. So many superclasses of one class count at most.
unfoldable pub tests_named : ℕ → Files → List Name → Result (List Test) Refusal
tests_named most files names = few_found (Tests most files names)

-- The tests of some of these classes. As many superclasses count as there are classes, and none is
-- above itself in a program.
abbrev pub tests_among : List Class → List Name → Result (List Test) Refusal
tests_among classes names = tests_named (length (names_in classes)) (class_file classes) names

-- The tests of a suite are those of its tests folder. Their superclasses may stand in both folders.
abbrev pub tests_of : LoadedSuite → Result (List Test) Refusal
tests_of s = tests_among (classes_in (all_classes s)) (map own_name (classes_in s.tests))

-- The tests of so many classes of a program, from this one on.
abbrev pub tests_from : List Info → ℕ → ℕ → Result (List Test) Refusal
tests_from p first count =
    tests_named (length p) (files_of p) (map (name_at p) (numbers_from first count))
