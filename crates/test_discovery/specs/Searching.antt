-- What private calls of the search promise (this project's own). No public clause cites these.
use Rattle.std.specs.Prelude.{◌≡◌, ◌≢◌, ℕ, Bool, List, map, length, count_by, Option, None, Some}
use Rattle.std.specs.Prelude.{Result, MatchResult, if◌then◌else◌}
use Rattle.std.specs.List.{list_any}
use Rattle.std.specs.Borrow.{Bor}
use Rattle.class_model.specs.declared.class.Class.{Class}
use Rattle.class_model.specs.declared.constant.Const.{Const}
use Rattle.program_rules.specs.Names.{Name}
use Rattle.class_table.specs.declared.scripted.Test.{Test}
use Rattle.class_link.specs.Info.{Info, own_name}
use Rattle.test_discovery.specs.declared.fault.TestFault.{TestFault}
use Rattle.test_discovery.specs.declared.fault.TestFault.TheVariants.{Memory}
use Rattle.test_discovery.specs.declared.listed.Listed.{Listed}
use Rattle.test_discovery.specs.declared.script.Fixture.{Fixture}
use Rattle.test_discovery.specs.Notes.{names_text}
use Rattle.test_discovery.specs.Listed.{files_of, rising, listed_of, downwards}
use Rattle.test_discovery.specs.Rules.{is_test_class, methods_fault, listed_fault, fault_with}
use Rattle.test_discovery.specs.Rules.{class_fault}
use Rattle.test_discovery.specs.Scripts.{tests_listed, tests_in, tests_of}
use Rattle.test_discovery.specs.Discovery.{Adds, risings, tests_among}

-- What stands behind references.
abbrev pub behind : {T : Type 0} → List (Bor T) → List T
behind rs = map (λ r. r.now) rs

-- An index names one of these texts.
abbrev pub names_one_of : List Const → List (Bor Name) → ℕ → Bool
names_one_of pool types index = list_any (λ t. names_text pool index t.now) types

-- A class of a program and its superclasses, as many at most as the program has classes.
abbrev pub rising_in : List Info → Name → List Class
rising_in p n = rising (length p) (files_of p) n

-- The tests of a program's classes of these names.
abbrev pub tests_named : List Info → List (List ℕ × Name) → Result (List Test) TestFault
tests_named p ordered = tests_among (risings (length p) (files_of p) ordered)

module _ {A : Type 0} where
  -- A call added the tests of a test class, by its listed methods.
  abbrev pub AddsTests :
      Class → List Listed → Fixture → List Test → List Test → Result A TestFault → Type 0
  AddsTests c ls fixture old new result =
      Adds (methods_fault c ls) (tests_listed (own_name c) fixture ls) old new result

  -- A call added the tests of a class, by its listed methods class by class.
  abbrev pub AddsListed :
      Class → List (List Listed) → List Test → List Test → Result A TestFault → Type 0
  AddsListed c by_class old new result =
      Adds (listed_fault c (downwards by_class)) (tests_in c by_class) old new result

  -- A call added the tests of a class, which stands before its superclasses.
  abbrev pub AddsWith :
      Class → List Class → List Test → List Test → Result A TestFault → Type 0
  AddsWith c classes old new result =
      Adds (fault_with c (downwards (listed_of classes))) (tests_in c (listed_of classes)) old new
      result

  -- The same where the class stands first, if there is one.
  abbrev pub AddsClass : List Class → List Test → List Test → Result A TestFault → Type 0
  AddsClass classes old new result =
      Adds (class_fault classes) (tests_of classes) old new result

-- ---- counts

-- How many tests a class has, by its listed methods.
abbrev pub count_in : Class → List Listed → ℕ
count_in c ls = if is_test_class c ls then count_by (λ l. l.marks.test) ls else 0

-- A call told this number where no fault is meant, and else told it, unless memory ran out.
abbrev pub CountsTo : Option TestFault → ℕ → Result ℕ TestFault → Type 0
CountsTo fault count result =
    MatchResult result (λ n. (fault ≡ None) × (n ≡ count)) (λ f. f ≢ Memory → fault ≡ Some f)

-- A call told how many tests a class has, by its listed methods.
abbrev pub CountsListed : Class → List Listed → Result ℕ TestFault → Type 0
CountsListed c ls result = CountsTo (listed_fault c ls) (count_in c ls) result

-- The same of a class that stands before its superclasses.
abbrev pub CountsWith : Class → List Class → Result ℕ TestFault → Type 0
CountsWith c classes result =
    CountsTo (fault_with c (downwards (listed_of classes)))
    (length (tests_in c (listed_of classes))) result

-- The same where the class stands first, if there is one.
abbrev pub CountsClass : List Class → Result ℕ TestFault → Type 0
CountsClass classes result = CountsTo (class_fault classes) (length (tests_of classes)) result
