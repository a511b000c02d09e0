-- What a run of a test calls (this project's own, in the manner of JUnit).
use Rattle.std.specs.Prelude.{Bool, List, [], ◌∷◌, ◌++◌, Option, Some, None, if◌then◌else◌}
use Rattle.std.specs.List.{filter, flat_map}
use Rattle.class_model.specs.declared.class.Class.{Class}
use Rattle.program_rules.specs.declared.call_kind.CallKind.{CallKind}
use Rattle.program_rules.specs.declared.call_kind.CallKind.TheVariants.{ClassWide, Make, Around, TestMethod}
use Rattle.program_rules.specs.Names.{Name, same, instance_initializer}
use Rattle.class_table.specs.declared.scripted.Call.{Call}
use Rattle.class_table.specs.declared.scripted.Test.{Test}
use Rattle.class_link.specs.Info.{own_name}
use Rattle.test_discovery.specs.declared.listed.Listed.{Listed}
use Rattle.test_discovery.specs.declared.marks.Marks.{Marks}
use Rattle.test_discovery.specs.declared.marks.Part.{Part}
use Rattle.test_discovery.specs.declared.marks.Part.TheVariants as part
use Rattle.test_discovery.specs.declared.script.Fixture.{Fixture}
use Rattle.test_discovery.specs.Expected.{expected_class}
use Rattle.test_discovery.specs.Listed.{listed_of, downwards}
use Rattle.test_discovery.specs.Rules.{is_test_class}

-- The annotations give a method this part.
abbrev pub has_part : Part → Marks → Bool
has_part part.Before marks = marks.before
has_part part.After marks = marks.after
has_part part.BeforeAll marks = marks.before_all
has_part part.AfterAll marks = marks.after_all

abbrev pub kind_of : Part → CallKind
kind_of part.Before = Around
kind_of part.After = Around
kind_of part.BeforeAll = ClassWide
kind_of part.AfterAll = ClassWide

abbrev pub call_of : CallKind → Listed → Call
call_of kind l = record { class = l.class; method = l.name; kind = kind }

-- The call of a method that has this part.
abbrev pub call_as : Part → Listed → List Call
call_as part l = if has_part part l.marks then call_of (kind_of part) l ∷ [] else []

-- The calls of the methods that have this part.
abbrev pub calls_as : Part → List Listed → List Call
calls_as part ls = flat_map (call_as part) ls

-- What stands around each test of a class with these listed methods, where what runs behind it is
-- given.
abbrev pub fixture_with : List Listed → List Call → List Call → Fixture
fixture_with ls after after_all = record {
  before_all = calls_as part.BeforeAll ls;
  before = calls_as part.Before ls;
  after = after;
  after_all = after_all;
}

-- What runs before a test stands in list order, and what runs behind it from the lowest class
-- upwards, in list order within one.
abbrev pub fixture_of : List (List Listed) → Fixture
fixture_of ls =
    fixture_with (downwards ls) (flat_map (calls_as part.After) ls)
    (flat_map (calls_as part.AfterAll) ls)

-- The new instance of the test class.
abbrev pub make_call : Name → Call
make_call class = record { class = class; method = instance_initializer; kind = Make }

-- The calls of a run of a test, in their order.
abbrev pub script_of : Name → Fixture → Listed → List Call
script_of class fixture l =
    fixture.before_all ++ make_call class ∷ []
    ++ fixture.before ++ call_of TestMethod l ∷ []
    ++ fixture.after ++ fixture.after_all

-- A test of this class.
abbrev pub test_in : Name → Fixture → Listed → Test
test_in class fixture l = record {
  class = class;
  method = l.name;
  script = script_of class fixture l;
  expected = expected_class l.marks.expected;
}

abbrev pub test_at : Name → Fixture → Listed → List Test
test_at class fixture l = if l.marks.test then test_in class fixture l ∷ [] else []

-- The tests among the listed methods of a class of this name.
abbrev pub tests_listed : Name → Fixture → List Listed → List Test
tests_listed class fixture ls = flat_map (test_at class fixture) ls

abbrev pub tests_in : Class → List (List Listed) → List Test
tests_in c ls =
    if is_test_class c (downwards ls)
    then tests_listed (own_name c) (fixture_of ls) (downwards ls)
    else []

-- The tests of a class that stands before its superclasses, in list order.
abbrev pub tests_of : List Class → List Test
tests_of [] = []
tests_of (c ∷ above) = tests_in c (listed_of (c ∷ above))

-- ---- one test

abbrev pub first_of : List Test → Option Test
first_of [] = None
first_of (t ∷ ts) = Some t

-- The test that a method of this name is in a class, with its script, if it is one. It is made from
-- the class and its superclasses alone, whatever other classes there are.
abbrev pub TestOf : List Class → Name → Option Test
TestOf classes method = first_of (filter (λ t. same t.method method) (tests_of classes))
