-- The classes of a program by number and by name.
use Rattle.std.specs.Prelude.{◌≡◌, Bool, false, All, IsTrue, ℕ, suc, ◌<◌, ◌^◌, if◌then◌else◌, List, [], ◌∷◌, ◌++◌, length, map, Option, Some, None, slice_get, option_and_then, IsSomeAnd, ⊤}
use Rattle.std.specs.Option.{option_map}
use Rattle.std.specs.Ordering.{nat_cmp, is_le}
use Rattle.std.specs.Cmp.Lexicographic.{slice_cmp}
use Rattle.class_model.specs.Text.{text}
use Rattle.program_rules.specs.Names.{Name, same, is_listed}
use Rattle.program_rules.specs.Linked.{Linked, parents_of}
use Rattle.program_rules.specs.Programs.{Look, supers}
use Rattle.class_link.specs.declared.loaded.Loaded.{Loaded}
use Rattle.class_link.specs.declared.loaded.LibClass.{LibClass}
use Rattle.class_link.specs.declared.loaded.ClassBody.{ClassBody}
use Rattle.class_link.specs.declared.loaded.ClassBody.TheVariants as body
use Rattle.class_link.specs.declared.linked.Entry.{Entry}
use Rattle.class_link.specs.declared.linked.LinkedMethod.{LinkedMethod}
use Rattle.class_link.specs.Info.{Info, IsInfo, body_name, class_of}
use Rattle.class_order.specs.Supers.{is_super_missing}
use Rattle.class_order.specs.Ranks.{HasRanks}

-- ---- names

-- The place of the first of these names that is this one, counted from i.
abbrev pub place_from : Name → ℕ → List Name → Option ℕ
place_from n i [] = None
place_from n i (m ∷ ms) = if same m n then Some i else place_from n (suc i) ms

abbrev pub place_in : List Name → Name → Option ℕ
place_in ns n = place_from n 0 ns

abbrev pub name_or_none : Option Name → Name
name_or_none None = []
name_or_none (Some n) = n

-- Each name stands at no place but its own.
abbrev pub AreDistinct : List Name → Type 0
AreDistinct ns = (i : ℕ) → i < length ns → place_in ns (name_or_none (slice_get ns i)) ≡ Some i

-- A name stands at two places.
pub record IsDuplicate (ns : List Name) (n : Name) : Type 0 where
  pub first : ℕ
  pub second : ℕ
  pub apart : first < second
  pub one : slice_get ns first ≡ Some n
  pub two : slice_get ns second ≡ Some n

-- Of all such names the least, in the order of their bytes in modified UTF-8.
pub record IsLeastDuplicate (ns : List Name) (n : Name) : Type 0 where
  pub duplicate : IsDuplicate ns n
  pub least : (m : Name) → IsDuplicate ns m → IsTrue (is_le (slice_cmp nat_cmp (text n) (text m)))

-- ---- programs

-- The classes that a program is made of, in the order of their numbers: those of class files, then
-- those of the library.
abbrev pub bodies_of : List Loaded → List LibClass → List ClassBody
bodies_of classes library = map body.File classes ++ map body.Library library

abbrev pub names_of : List Loaded → List LibClass → List Name
names_of classes library = map body_name (bodies_of classes library)

-- The names of the classes by their numbers.
abbrev pub names : List Info → List Name
names p = map (λ i. i.name) p

-- Where they come from, by their numbers.
abbrev pub bodies : List Info → List ClassBody
bodies p = map (λ i. i.body) p

-- The number of the class of a name.
abbrev pub number_of : List Info → Name → Option ℕ
number_of p n = place_in (names p) n

-- The class of a number.
abbrev pub class_at : List Info → ℕ → Option Linked
class_at p id = option_map class_of (slice_get p id)

-- The name of the class of a number.
abbrev pub name_at : List Info → ℕ → Name
name_at p id = name_or_none (slice_get (names p) id)

-- A program as the machine's definitions ask it: the class of each name.
abbrev pub look : List Info → Look
look p n = option_and_then (class_at p) (number_of p n)

-- Whether a class is another one or stands below it, by number.
abbrev pub is_below : List Info → ℕ → ℕ → Bool
is_below p class over = is_listed (name_at p over) (supers (look p) (name_at p class))

-- The supers of a class, by number.
pub record AreLinksOf (p : List Info) (a : ℕ) (over : List ℕ) : Type 0 where
  pub named : map (name_at p) over ≡ parents_of (look p (name_at p a))
  pub within : (k b : ℕ) → slice_get over k ≡ Some b → b < length p

-- There are fewer classes than numbers, and no two have one name. Each has the name and the meaning
-- of its body. No super is missing, and classes have ranks, so none stands above itself.
pub record IsProgram (p : List Info) : Type 0 where
  pub few : length p < 2 ^ 32
  pub distinct : AreDistinct (names p)
  pub meant : All IsInfo p
  pub present : (n : Name) → is_super_missing (look p) n ≡ false
  pub ranks : HasRanks (look p)

-- ---- the entries and the methods of a class, by number

abbrev pub entries_in : Option Info → List Entry
entries_in None = []
entries_in (Some i) = i.linked.entries

abbrev pub entries_at : List Info → ℕ → List Entry
entries_at p class = entries_in (slice_get p class)

abbrev pub methods_in : Option Info → List LinkedMethod
methods_in None = []
methods_in (Some i) = i.linked.methods

abbrev pub methods_at : List Info → ℕ → List LinkedMethod
methods_at p class = methods_in (slice_get p class)

-- ---- one class in the place of another

abbrev pub IsFile : ClassBody → Type 0
IsFile (body.File loaded) = ⊤
IsFile (body.Edited e) = ⊤
IsFile (body.Library c) = ⊥

-- Two classes of class files have one name, one superclass and the same interfaces.
pub record IsAlike (old new : Info) : Type 0 where
  pub old_file : IsFile old.body
  pub new_file : IsFile new.body
  pub name : new.name ≡ old.name
  pub parent : (class_of new).parent ≡ (class_of old).parent
  pub interfaces : (class_of new).interfaces ≡ (class_of old).interfaces

-- A class may stand in the place of the one of this number.
abbrev pub CanSwap : List Info → ℕ → Info → Type 0
CanSwap p id new = IsSomeAnd (slice_get p id) (λ old. IsAlike old new)
