-- The supers of a program's classes by number, and which classes have a fault of theirs (this
-- project's own).
use Rattle.std.specs.Prelude.{◌≡◌, ℕ, ◌<◌, ◌^◌, Bool, true, false, ◌||◌, List, Some, slice_get, option_and_then, is_none, length}
use Rattle.std.specs.List.{list_any, flat_map}
use Rattle.std.specs.Option.{option_to_list}
use Rattle.program_rules.specs.Names.{Name}
use Rattle.program_rules.specs.Linked.{parents_of}
use Rattle.class_link.specs.Info.{Info, class_of}
use Rattle.class_order.specs.declared.links.Links.{Links}
use Rattle.class_order.specs.declared.standing.Standing.{Standing}
use Rattle.class_order.specs.declared.standing.Standing.TheVariants.{New, Open, Ranked, Cyclic}
use Rattle.class_order.specs.Graph.{supers_at}
use Rattle.class_order.specs.Above.{AreRows}
use Rattle.class_order.specs.Supers.{lacks_superclass, names_wrong_kind}
use Rattle.class_table.specs.declared.supers.Supers.{Supers}
use Rattle.class_table.specs.Table.{number_of, look}

-- Whether a class of the program misses a super.
abbrev pub misses : List Info → Info → Bool
misses p i =
    lacks_superclass i.name (Some (class_of i))
    || list_any (λ m. is_none (look p m)) (parents_of (Some (class_of i)))

-- Whether it names a super of a wrong kind.
abbrev pub names_wrong : List Info → Info → Bool
names_wrong p i = names_wrong_kind (look p) (Some (class_of i))

-- The numbers of those of these names that are there.
abbrev pub numbers_known : List Info → List Name → List ℕ
numbers_known p ns = flat_map (λ n. option_to_list (number_of p n)) ns

-- What a class names as its supers, by number.
pub record IsLinked (p : List Info) (i : Info) (l : Links) : Type 0 where
  pub parent : l.parent ≡ option_and_then (number_of p) (class_of i).parent
  pub interfaces : l.interfaces.items ≡ numbers_known p (class_of i).interfaces

-- The same of so many classes.
pub record AreLinked (p : List Info) (count : ℕ) (g : List Links) : Type 0 where
  pub each : length g ≡ count
  pub fit :
      (a : ℕ) (i : Info) (l : Links) → slice_get p a ≡ Some i → slice_get g a ≡ Some l →
      IsLinked p i l

-- The same of all classes.
abbrev pub AreLinks : List Info → List Links → Type 0
AreLinks p g = AreLinked p (length p) g

-- Whether a class was found to stand above itself.
abbrev pub is_cyclic : Standing → Bool
is_cyclic Cyclic = true
is_cyclic New = false
is_cyclic (Open place) = false
is_cyclic (Ranked rank) = false

-- Classes have ranks, so that each super has a lower one.
pub record IsRanked (g : List Links) : Type 0 where
  pub rank : ℕ → ℕ
  pub few : (a : ℕ) → rank a < 2 ^ 32
  pub lower : (a k b : ℕ) → slice_get (supers_at g a) k ≡ Some b → rank b < rank a

-- What is kept of the supers of a program's classes.
pub record AreSupers (p : List Info) (s : Supers) : Type 0 where
  pub links : AreLinks p s.links.items
  pub rows : AreRows s.links.items s.above.items
