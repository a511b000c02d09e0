-- What is said of the list of tests, over its definition alone.
use Rattle.std.specs.Prelude.{◌≡◌, ◌⊎◌, ℕ, true, false, List, [], ◌∷◌, ◌++◌, map, codes, Some, slice_get, Ok}
use Rattle.class_model.specs.declared.class.Class.{Class}
use Rattle.class_model.specs.declared.class.Member.{Member}
use Rattle.program_rules.specs.Names.{Name}
use Rattle.class_table.specs.declared.scripted.Test.{Test}
use Rattle.test_discovery.specs.Annotations.{marks_of}
use Rattle.test_discovery.specs.Discovery.{Tests, in_order}
use Rattle.test_discovery.specs.Listed.{Files, rising, head_of, declares_any}
use Rattle.test_discovery.specs.Rules.{may_test}
use Rattle.test_laws.specs.Laws.{AreNamed, DeclareOnce}

-- One of these.
abbrev pub Among : {X : Type 0} → X → List X → Type 0
Among x [] = ⊥
Among x (y ∷ ys) = (y ≡ x) ⊎ Among x ys

-- ---- a test method of a test class

-- Among a class and its superclasses, the lowest first, one declares a method of this name that the
-- annotations make a test, and none below it declares the method again.
pub record IsTestMethod (classes : List Class) (method : Name) : Type 0 where
  pub lower : List Class
  pub declaring : Class
  pub above : List Class
  pub parted : classes ≡ lower ++ declaring ∷ above
  pub member : Member
  pub declared : Among member declaring.methods
  pub marked : (marks_of declaring.pool member.attrs).test ≡ true
  pub shown : declares_any lower (head_of declaring.pool member) ≡ false
  pub named : (head_of declaring.pool member).0 ≡ method

-- The names of the classes that are searched, in the byte order of modified UTF-8, each once.
abbrev pub searched : List Name → List Name
searched names = map (λ entry. entry.1) (in_order names)

-- A class of this name is searched and may be a test class, and a method of this name is a test
-- method of it. The class stands before its superclasses.
pub record IsTest (names : List Name) (classes : List Class) (class method : Name) : Type 0 where
  pub search : Among class (searched names)
  pub lowest : Class
  pub above : List Class
  pub found : classes ≡ lowest ∷ above
  pub may : may_test lowest ≡ true
  pub tested : IsTestMethod (lowest ∷ above) method

-- A test of this class and this method is in the list.
pub record IsListed (tests : List Test) (class method : Name) : Type 0 where
  pub test : Test
  pub listed : Among test tests
  pub of_class : test.class ≡ class
  pub of_method : test.method ≡ method

-- A test is listed exactly where its class is a test class, and its method a test method of it.
abbrev pub TestsAreListed : Type 0
TestsAreListed =
    (most : ℕ) (files : Files) (names : List Name) (tests : List Test) → AreNamed files →
    Tests most files names ≡ Ok tests → (class method : Name) →
    (IsListed tests class method → IsTest names (rising most files class) class method)
    × (IsTest names (rising most files class) class method → IsListed tests class method)

-- No two places of the list have one class and one method, where no class file declares two methods
-- of one name and descriptor.
abbrev pub TestsStandOnce : Type 0
TestsStandOnce =
    (most : ℕ) (files : Files) (names : List Name) (tests : List Test) → AreNamed files →
    DeclareOnce files → Tests most files names ≡ Ok tests → (i j : ℕ) (t u : Test) →
    slice_get tests i ≡ Some t → slice_get tests j ≡ Some u → t.class ≡ u.class →
    t.method ≡ u.method → i ≡ j

-- Class files of which this is said, and among them a test: the method `t` of a class `T`.
pub record AreMet : Type 0 where
  pub files : Files
  pub names : List Name
  pub tests : List Test
  pub named : AreNamed files
  pub once : DeclareOnce files
  pub found : Tests 1 files names ≡ Ok tests
  pub listed : IsListed tests (codes "T") (codes "t")
