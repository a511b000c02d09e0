-- The tests of the tests folder (this project's own, in the manner of JUnit).
use Rattle.std.specs.Prelude.{◌≡◌, ◌≢◌, ℕ, List, [], ◌++◌, map, fold, length, slice_get, Option, Some, None, Result, Ok, Err, MatchResult}
use Rattle.std.specs.List.{flat_map}
use Rattle.std.specs.Io.Iter.{u64_saturate}
use Rattle.std.specs.BTreeMap.{insert_entry}
use Rattle.std.specs.Ordering.{nat_cmp}
use Rattle.std.specs.Cmp.Lexicographic.{slice_cmp}
use Rattle.class_model.specs.Text.{text}
use Rattle.class_model.specs.declared.class.Class.{Class}
use Rattle.class_model.specs.declared.class.ClassId.{ClassId}
use Rattle.program_rules.specs.Names.{Name}
use Rattle.class_table.specs.declared.scripted.Test.{Test}
use Rattle.class_link.specs.Info.{Info}
use Rattle.test_discovery.specs.declared.fault.TestFault.{TestFault}
use Rattle.test_discovery.specs.declared.fault.TestFault.TheVariants.{Memory}
use Rattle.test_discovery.specs.Listed.{Files, files_of, rising}
use Rattle.test_discovery.specs.Rules.{first_fault, class_fault}
use Rattle.test_discovery.specs.Scripts.{tests_of}

-- ---- the order of the classes

-- A name with its bytes in modified UTF-8, put among others in the order of the bytes.
abbrev pub put_name : List (List ℕ × Name) → Name → List (List ℕ × Name)
put_name kept n = insert_entry (slice_cmp nat_cmp) kept (text n) n

-- These names in the byte order of modified UTF-8, each once.
abbrev pub in_order : List Name → List (List ℕ × Name)
in_order names = fold put_name [] names

-- The classes of names in order, each before its superclasses.
abbrev pub risings : ℕ → Files → List (List ℕ × Name) → List (List Class)
risings most files ordered = map (λ e. rising most files e.1) ordered

-- ---- the tests

abbrev pub unless_refused : Option TestFault → List Test → Result (List Test) TestFault
unless_refused None tests = Ok tests
unless_refused (Some fault) tests = Err fault

-- The tests of these classes: class by class and in list order within one, or the first fault.
abbrev pub tests_among : List (List Class) → Result (List Test) TestFault
tests_among found = unless_refused (first_fault class_fault found) (flat_map tests_of found)

-- The tests of the classes of these names. So many superclasses of one class count at most.
abbrev pub Tests : ℕ → Files → List Name → Result (List Test) TestFault
Tests most files names = tests_among (risings most files (in_order names))

abbrev pub name_in : Option Info → Name
name_in None = []
name_in (Some i) = i.name

-- The name of the class of a number.
abbrev pub name_of : List Info → ClassId → Name
name_of p id = name_in (slice_get p id.0)

abbrev pub names_of : List Info → List ClassId → List Name
names_of p ids = map (name_of p) ids

-- The tests of a program's classes of these numbers.
abbrev pub program_tests : List Info → List ClassId → Result (List Test) TestFault
program_tests p from = Tests (length p) (files_of p) (names_of p from)

-- ---- what calls promise

-- A call gave what is meant, unless memory ran out.
abbrev pub Finds : Result (List Test) TestFault → Result (List Test) TestFault → Type 0
Finds meant result =
    MatchResult result (λ tests. meant ≡ Ok tests) (λ fault. fault ≢ Memory → meant ≡ Err fault)

-- How many tests are meant, or 2^64 - 1 where they are more.
abbrev pub counted : Result (List Test) TestFault → Result ℕ TestFault
counted (Ok tests) = Ok (u64_saturate (length tests))
counted (Err fault) = Err fault

-- A call told how many tests are meant, unless memory ran out.
abbrev pub Counts : Result (List Test) TestFault → Result ℕ TestFault → Type 0
Counts meant result =
    MatchResult result (λ n. counted meant ≡ Ok n)
    (λ fault. fault ≢ Memory → counted meant ≡ Err fault)

-- A call added these tests where no fault is meant, and else told it, unless memory ran out.
abbrev pub Adds :
    {A : Type 0} → Option TestFault → List Test → List Test → List Test → Result A TestFault
    → Type 0
Adds fault more old new result =
    MatchResult result (λ _. (fault ≡ None) × (new ≡ old ++ more))
    (λ f. f ≢ Memory → fault ≡ Some f)
