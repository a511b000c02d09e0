-- What a search over a class and all above it goes over, each class once.
use Rattle.std.specs.Prelude.{◌≡◌, ◌<◌, ℕ, List, [], ◌∷◌, map, Some, slice_get, length}
use Rattle.program_rules.specs.Names.{Name}
use Rattle.program_rules.specs.Outlines.{outline_of, interfaces_in}
use Rattle.program_rules.specs.Programs.{Look, Order, Node, node, nodes, supers, Rising, Beginning, concat_over}
use Rattle.class_link.specs.Info.{Info}
use Rattle.class_table.specs.Table.{look, name_at}
use Rattle.class_family.specs.Once.{each_once}

-- The names of the classes of a walk.
abbrev pub names_in : List Node → List Name
names_in ns = map (λ n. n.name) ns

-- A class as each walk has it.
abbrev pub node_of : Look → Name → Node
node_of p n = node n (outline_of (p n)) (supers p n)

-- The classes of a walk, each once, in the order in which it first comes to them.
abbrev pub classes_of : Order → Look → Name → List Name
classes_of order p n = each_once (names_in (nodes order p n))

-- The same by number.
pub record AreClassesOf (order : Order) (p : List Info) (a : ℕ) (ids : List ℕ) : Type 0 where
  pub named : map (name_at p) ids ≡ classes_of order (look p) (name_at p a)
  pub within : (k b : ℕ) → slice_get ids k ≡ Some b → b < length p

-- What is initialised before a class, but for its superclass and what comes before that: its
-- interfaces, each behind its own (JVMS 5.5, step 7).
abbrev pub across : Look → Name → List Name
across p n =
    concat_over (λ m. names_in (nodes Beginning p m)) (interfaces_in (outline_of (p n)))

-- These, each once, by number.
pub record AreAcross (p : List Info) (a : ℕ) (ids : List ℕ) : Type 0 where
  pub named : map (name_at p) ids ≡ each_once (across (look p) (name_at p a))
  pub within : (k b : ℕ) → slice_get ids k ≡ Some b → b < length p

-- The classes from this one upwards.
abbrev pub rising_at : List Info → ℕ → List Node
rising_at p a = nodes Rising (look p) (name_at p a)

-- The walk upwards from a class goes on with that of its superclass.
abbrev pub GoesOn : List Info → ℕ → ℕ → Type 0
GoesOn p a up = rising_at p a ≡ node_of (look p) (name_at p a) ∷ rising_at p up

-- It ends with the class.
abbrev pub EndsAt : List Info → ℕ → Type 0
EndsAt p a = rising_at p a ≡ node_of (look p) (name_at p a) ∷ []
