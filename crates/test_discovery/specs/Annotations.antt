-- The annotations of JUnit 4 and JUnit 5 that count here, and what they make of a method (this
-- project's own, in the manner of JUnit). Annotations count alike in both lists of an owner, that
-- which is visible when the program runs and the other one (JVMS 4.7.16, 4.7.17).
use Rattle.std.specs.Prelude.{Bool, not, ◌&&◌, ◌||◌, List, [], ◌∷◌, codes}
use Rattle.std.specs.List.{list_any}
use Rattle.class_model.specs.declared.annotation.Note.{Note}
use Rattle.class_model.specs.declared.attribute.Attr.{Attr}
use Rattle.class_model.specs.declared.constant.Const.{Const}
use Rattle.program_rules.specs.Names.{Name}
use Rattle.test_discovery.specs.Notes.{names_text, notes_at}
use Rattle.test_discovery.specs.declared.marks.Marks.{Marks}
use Rattle.test_discovery.specs.Expected.{first_expected}

-- ---- the types of annotations, by what they count as

-- The annotation of JUnit 4's tests, which may have the element `expected`.
abbrev pub test_type : Name
test_type = codes "Lorg/junit/Test;"

-- A test method.
abbrev pub test_types : List Name
test_types = test_type ∷ codes "Lorg/junit/jupiter/api/Test;" ∷ []

-- A method that runs before each test.
abbrev pub before_types : List Name
before_types = codes "Lorg/junit/Before;" ∷ codes "Lorg/junit/jupiter/api/BeforeEach;" ∷ []

-- A method that runs after each test.
abbrev pub after_types : List Name
after_types = codes "Lorg/junit/After;" ∷ codes "Lorg/junit/jupiter/api/AfterEach;" ∷ []

-- A method that runs before the instance is made.
abbrev pub before_all_types : List Name
before_all_types =
    codes "Lorg/junit/BeforeClass;" ∷ codes "Lorg/junit/jupiter/api/BeforeAll;" ∷ []

-- A method that runs behind everything else.
abbrev pub after_all_types : List Name
after_all_types =
    codes "Lorg/junit/AfterClass;" ∷ codes "Lorg/junit/jupiter/api/AfterAll;" ∷ []

-- Not a test, or no tests of the class.
abbrev pub ignored_types : List Name
ignored_types = codes "Lorg/junit/Ignore;" ∷ codes "Lorg/junit/jupiter/api/Disabled;" ∷ []

-- What asks for a runner, an extension or a rule of its own. None of them is run here.
abbrev pub runner_types : List Name
runner_types =
    codes "Lorg/junit/runner/RunWith;"
    ∷ codes "Lorg/junit/jupiter/api/extension/ExtendWith;"
    ∷ codes "Lorg/junit/jupiter/params/ParameterizedTest;"
    ∷ codes "Lorg/junit/jupiter/api/RepeatedTest;"
    ∷ codes "Lorg/junit/jupiter/api/Nested;"
    ∷ codes "Lorg/junit/Rule;"
    ∷ []

-- ---- the annotations of an owner

-- An annotation is of one of these types.
abbrev pub is_one_of : List Const → List Name → Note → Bool
is_one_of pool types note = list_any (names_text pool note.kind) types

-- An attribute has an annotation of one of these types.
abbrev pub has_one_of : List Const → List Name → Attr → Bool
has_one_of pool types attr = list_any (is_one_of pool types) (notes_at attr)

-- An owner of these attributes has an annotation of one of these types.
abbrev pub has_any : List Const → List Name → List Attr → Bool
has_any pool types attrs = list_any (has_one_of pool types) attrs

-- ---- a method

-- What the annotations of a method with these attributes make of it. One that is ignored is no
-- test.
unfoldable pub marks_of : List Const → List Attr → Marks
marks_of pool attrs = record {
  test = has_any pool test_types attrs && not (has_any pool ignored_types attrs);
  before = has_any pool before_types attrs;
  after = has_any pool after_types attrs;
  before_all = has_any pool before_all_types attrs;
  after_all = has_any pool after_all_types attrs;
  expected = first_expected pool test_type attrs;
}

-- It runs with the instance of a test.
abbrev pub is_of_instance : Marks → Bool
is_of_instance marks = marks.test || marks.before || marks.after

-- It runs around the tests of the class, without an instance.
abbrev pub is_of_class : Marks → Bool
is_of_class marks = marks.before_all || marks.after_all

-- It plays a part in a test.
abbrev pub is_marked : Marks → Bool
is_marked marks = is_of_instance marks || is_of_class marks
