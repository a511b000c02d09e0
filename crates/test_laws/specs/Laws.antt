-- What is said of the tests that are found among class files.
use Rattle.std.specs.Prelude.{◌≡◌, ◌≤◌, ℕ, List, length, All, Some, Ok, if◌then◌else◌, slice_get}
use Rattle.std.specs.Prelude.{true}
use Rattle.class_model.specs.declared.class.Class.{Class}
use Rattle.class_model.specs.declared.class.Member.{Member}
use Rattle.class_model.specs.declared.edit.Edit.{Edit}
use Rattle.class_reader.specs.Spells.{IsClass}
use Rattle.program_rules.specs.Names.{Name, same, is_listed}
use Rattle.program_rules.specs.Programs.{Look}
use Rattle.class_order.specs.Ranks.{HasRanks}
use Rattle.class_link.specs.Info.{own_name}
use Rattle.class_link.specs.Linking.{link}
use Rattle.class_table.specs.declared.scripted.Test.{Test}
use Rattle.type_rules.specs.Rules.{Accepted}
use Rattle.test_discovery.specs.Listed.{Files, rising, head_of}
use Rattle.test_discovery.specs.Discovery.{Tests}
use Rattle.test_discovery.specs.Scripts.{tests_of, TestOf}
use Rattle.mutant_apply.specs.Edited.{applied}

-- ---- edits

-- These class files, with this one under its name.
abbrev pub with_file : Class → Files → Files
with_file c files n = if same n (own_name c) then Some c else files n

-- An edit of a class file leaves the tests of each class as they are: which there are, their
-- scripts and what they expect.
abbrev pub EditKeepsTests : Type 0
EditKeepsTests =
    (files : Files) (c : Class) (edit : Edit) (made : Class × List ℕ) (most : ℕ) (n : Name) →
    IsClass c → files (own_name c) ≡ Some c → applied c edit ≡ Some made →
    tests_of (rising most (with_file made.0 files) n) ≡ tests_of (rising most files n)

-- The edited class has the name of the class.
abbrev pub EditKeepsName : Type 0
EditKeepsName =
    (c : Class) (edit : Edit) (made : Class × List ℕ) → IsClass c → applied c edit ≡ Some made →
    own_name made.0 ≡ own_name c

-- ---- each test by its class and method

-- A class file has the name under which it is.
abbrev pub AreNamed : Files → Type 0
AreNamed files = (n : Name) (c : Class) → files n ≡ Some c → own_name c ≡ n

-- The class files mean what the program has under their names.
abbrev pub AreMeant : Look → Files → Type 0
AreMeant p files = (n : Name) (c : Class) → files n ≡ Some c → p n ≡ Some (link c)

-- A class file declares no two methods of one name and descriptor (JVMS 4.6).
abbrev pub DeclaresOnce : Class → Type 0
DeclaresOnce c =
    (i j : ℕ) (m k : Member) → slice_get c.methods i ≡ Some m → slice_get c.methods j ≡ Some k →
    head_of c.pool m ≡ head_of c.pool k → i ≡ j

abbrev pub DeclareOnce : Files → Type 0
DeclareOnce files = (n : Name) (c : Class) → files n ≡ Some c → DeclaresOnce c

-- So it is where the code of the program is accepted that these class files are.
abbrev pub AcceptedDeclareOnce : Type 0
AcceptedDeclareOnce =
    (p : Look) (files : Files) → Accepted p → AreMeant p files → DeclareOnce files

-- Then each test that is found is the test of its class and method.
abbrev pub FoundAreTestsOf : Type 0
FoundAreTestsOf =
    (most : ℕ) (files : Files) (names : List Name) (ts : List Test) → AreNamed files →
    DeclareOnce files → Tests most files names ≡ Ok ts →
    All (λ t. TestOf (rising most files t.class) t.method ≡ Some t) ts

-- ---- how far up

-- Each class file has one of these names.
abbrev pub AreAmong : List Name → Files → Type 0
AreAmong names files = (n : Name) (c : Class) → files n ≡ Some c → is_listed n names ≡ true

-- Where no class stands above itself no more superclasses are found than there are names.
abbrev pub RisingEnds : Type 0
RisingEnds =
    (p : Look) (files : Files) (names : List Name) (most : ℕ) (n : Name) → HasRanks p →
    AreNamed files → AreMeant p files → AreAmong names files → length names ≤ most →
    rising most files n ≡ rising (length names) files n
