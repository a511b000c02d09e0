-- The methods of a test class (this project's own, in the manner of JUnit): those of the class and
-- of its superclasses that play a part in a test.
use Rattle.std.specs.Prelude.{ℕ, zero, suc, Bool, not, ◌&&◌, List, [], ◌∷◌, ◌++◌, Option, Some, None, slice_get, option_and_then, reverse, if◌then◌else◌}
use Rattle.std.specs.List.{list_any, flat_map}
use Rattle.class_model.specs.Pool.{text_of, class_name_of}
use Rattle.class_model.specs.declared.class.Class.{Class}
use Rattle.class_model.specs.declared.class.Member.{Member}
use Rattle.class_model.specs.declared.constant.Const.{Const}
use Rattle.program_rules.specs.Names.{Name, same}
use Rattle.class_link.specs.Symbols.{name_or_empty}
use Rattle.class_link.specs.Info.{Info, own_name, file_in}
use Rattle.class_table.specs.Table.{number_of}
use Rattle.test_discovery.specs.declared.listed.Listed.{Listed}
use Rattle.test_discovery.specs.declared.marks.Marks.{Marks}
use Rattle.test_discovery.specs.Annotations.{marks_of, is_marked}

-- ---- the class and its superclasses

-- The class files of a program by their names.
abbrev pub Files : Type 0
Files = Name → Option Class

-- Those of a program's classes. A class of the library has none.
abbrev pub files_of : List Info → Files
files_of p n = option_and_then (λ id. option_and_then file_in (slice_get p id)) (number_of p n)

-- The superclass that a class file names (JVMS 4.1, super_class).
abbrev pub superclass_of : Class → Option Name
superclass_of c = class_name_of c.pool c.parent

-- The class file of the superclass.
abbrev pub file_above : Files → Class → Option Class
file_above files c = option_and_then files (superclass_of c)

-- The class file and those of its superclasses, the lowest first; so many at most.
abbrev pub rising_from : ℕ → Files → Option Class → List Class
rising_from k files None = []
rising_from zero files (Some c) = []
rising_from (suc k) files (Some c) =
    c ∷ rising_from k files (file_above files c)

-- The class file of a name and those of its superclasses, the lowest first, up to one that has no
-- class file. Where as many are allowed as a program has classes and no class is above itself, none
-- is left out.
abbrev pub rising : ℕ → Files → Name → List Class
rising most files n = rising_from most files (files n)

-- ---- their methods

-- A method is told from others by its name and its descriptor (JVMS 4.6).
abbrev pub head_of : List Const → Member → Name × Name
head_of pool m = (name_or_empty (text_of pool m.name), name_or_empty (text_of pool m.desc))

abbrev pub same_head : Name × Name → Name × Name → Bool
same_head a b = same a.0 b.0 && same a.1 b.1

-- A class declares a method of this name and descriptor.
abbrev pub declares : Name × Name → Class → Bool
declares head c = list_any (λ m. same_head (head_of c.pool m) head) c.methods

-- One of these classes declares a method of this name and descriptor.
abbrev pub declares_any : List Class → Name × Name → Bool
declares_any classes head = list_any (declares head) classes

abbrev pub listed_with : Name → Name × Name → ℕ → Marks → Listed
listed_with class head flags marks = record {
  class = class;
  name = head.0;
  desc = head.1;
  flags = flags;
  marks = marks;
}

-- A method with what its annotations make of it.
abbrev pub listed_as : Class → Member → Listed
listed_as c m = listed_with (own_name c) (head_of c.pool m) m.flags (marks_of c.pool m.attrs)

-- A method is listed where it plays a part in a test and isn't hidden.
abbrev pub is_listed : (Name × Name → Bool) → Class → Member → Bool
is_listed is_hidden c m = is_marked (marks_of c.pool m.attrs) && not (is_hidden (head_of c.pool m))

abbrev pub listed_at : (Name × Name → Bool) → Class → Member → List Listed
listed_at is_hidden c m = if is_listed is_hidden c m then listed_as c m ∷ [] else []

-- The listed methods of one class in file order.
abbrev pub listed_in : (Name × Name → Bool) → Class → List Listed
listed_in is_hidden c = flat_map (listed_at is_hidden c) c.methods

-- The listed methods of these classes, class by class. One that a lower class declares again is
-- hidden.
abbrev pub listed_above : List Class → List Class → List (List Listed)
listed_above lower [] = []
listed_above lower (c ∷ above) =
    listed_in (declares_any lower) c ∷ listed_above (lower ++ c ∷ []) above

-- The listed methods of a class and its superclasses, class by class, the lowest first.
unfoldable pub listed_of : List Class → List (List Listed)
listed_of classes = listed_above [] classes

-- List order: the highest class first.
unfoldable pub downwards : List (List Listed) → List Listed
downwards ls = flat_map (λ l. l) (reverse ls)
