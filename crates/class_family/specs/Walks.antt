-- What a walk over a class and all above it has still to do, where each class is found once (this
-- project's own). No public clause cites these.
use Rattle.std.specs.Prelude.{◌≡◌, ◌+◌, ◌<◌, ℕ, Bool, true, if◌then◌else◌, ⊤}
use Rattle.std.specs.Prelude.{List, [], ◌∷◌, ◌++◌, map, take, drop, length, slice_get}
use Rattle.std.specs.Prelude.{Option, Some, None}
use Rattle.program_rules.specs.Names.{Name, is_listed}
use Rattle.program_rules.specs.Outlines.{Outline, outline_of, is_interface_class, interfaces_in}
use Rattle.program_rules.specs.Programs.{Look, Order, Rising, Searching, Beginning, nodes}
use Rattle.program_rules.specs.Programs.{superclass_in, concat_over, consult_in}
use Rattle.class_link.specs.Info.{Info}
use Rattle.class_order.specs.declared.links.Links.{Links}
use Rattle.class_order.specs.Graph.{supers_of}
use Rattle.class_table.specs.Table.{look, name_at}
use Rattle.class_table.specs.Seen.{AreKnown}
use Rattle.jvm_marks.specs.Marks.{is_among, with_number}
use Rattle.class_family.specs.declared.seen.Seen.{Seen}
use Rattle.class_family.specs.declared.tasks.Task.{Task}
use Rattle.class_family.specs.declared.tasks.Task.TheVariants.{Enter, Leave}
use Rattle.class_family.specs.declared.tasks.Way.{Way}
use Rattle.class_family.specs.declared.tasks.Way.TheVariants as way
use Rattle.class_family.specs.Families.{names_in}
use Rattle.class_family.specs.Above.{is_above_any, AreWithin}

-- ---- what a walk is made of

-- The order of a way.
abbrev pub order_of : Way → Order
order_of way.Searching = Searching
order_of way.Beginning = Beginning

-- The class, where the walk comes to it before all above it.
abbrev pub before : Order → Name → List Name
before Rising n = n ∷ []
before Searching n = n ∷ []
before Beginning n = []

-- The class, where the walk comes to it behind all above it.
abbrev pub behind : Order → Name → List Name
behind Rising n = []
behind Searching n = []
behind Beginning n = n ∷ []

-- The supers that a walk goes on to, in order.
abbrev pub steps : Order → Option Outline → List Name
steps Rising c = superclass_in c
steps Searching c = interfaces_in c ++ superclass_in c
steps Beginning c = (if is_interface_class c then [] else superclass_in c) ++ interfaces_in c

-- The superclass among the supers of a class, of which it is the first, if the class names one.
abbrev pub superclass_among : {A : Type 0} → Bool → List A → List A
superclass_among named over = if named then take 1 over else []

-- The interfaces among them.
abbrev pub interfaces_among : {A : Type 0} → Bool → List A → List A
interfaces_among named over = if named then drop 1 over else over

-- The supers that a walk goes on to, among those of a class.
abbrev pub steps_among : {A : Type 0} → Order → Bool → Bool → List A → List A
steps_among Rising named interface over = superclass_among named over
steps_among Searching named interface over =
    interfaces_among named over ++ superclass_among named over
steps_among Beginning named interface over =
    (if interface then [] else superclass_among named over) ++ interfaces_among named over

-- ---- tasks

-- These classes are entered, the first one first: it is the last of the tasks.
abbrev pub enters_of : List ℕ → List Task
enters_of [] = []
enters_of (a ∷ more) = enters_of more ++ Enter a ∷ []

-- These classes are entered before all else.
abbrev pub Pushes : List ℕ → List Task → List Task → Type 0
Pushes over old new = new ≡ old ++ enters_of over

-- The super of a class at a place is, if there is one.
abbrev pub PushesAt : Links → ℕ → List Task → List Task → Type 0
PushesAt links at old new = Pushes (take 1 (drop at (supers_of links))) old new

-- The supers from a place on are.
abbrev pub PushesFrom : Links → ℕ → List Task → List Task → Type 0
PushesFrom links from old new = Pushes (drop from (supers_of links)) old new

-- The superclass is, if the class names one.
abbrev pub PushesSuperclass : Links → Bool → List Task → List Task → Type 0
PushesSuperclass links named old new = Pushes (superclass_among named (supers_of links)) old new

-- The interfaces are.
abbrev pub PushesInterfaces : Links → Bool → List Task → List Task → Type 0
PushesInterfaces links named old new = Pushes (interfaces_among named (supers_of links)) old new

-- The supers that a walk goes on to are.
abbrev pub GoesUp : Links → Way → Bool → Bool → List Task → List Task → Type 0
GoesUp links way named interface old new =
    Pushes (steps_among (order_of way) named interface (supers_of links)) old new

-- The names that a walk comes to.
abbrev pub walk : Order → List Info → ℕ → List Name
walk order p a = names_in (nodes order (look p) (name_at p a))

-- The names that a task comes to, in order.
abbrev pub names_of_task : Order → List Info → Task → List Name
names_of_task order p (Enter a) = walk order p a
names_of_task order p (Leave a) = behind order (name_at p a)

-- The names that all tasks come to, in order.
abbrev pub wanted : Order → List Info → List Task → List Name
wanted order p [] = []
wanted order p (t ∷ more) = wanted order p more ++ names_of_task order p t

-- A program of no class: none of its names is known from the start.
abbrev pub nobody : Look
nobody n = None

-- Names, each once, behind those that are there.
abbrev pub add_in : List Name → List Name → List Name
add_in ms ns = consult_in nobody ms ns

-- All of these names are there.
abbrev pub AreThere : List Name → List Name → Type 0
AreThere ns ms = AreKnown nobody ns ms

-- A task can be made, where these names were found before it.
abbrev pub IsTask : Order → List Info → List Name → Task → Type 0
IsTask order p ns (Enter a) = a < length p
IsTask order p ns (Leave a) =
    (a < length p) × AreThere (add_in (behind order (name_at p a)) ns) (walk order p a)

-- The same of all tasks.
abbrev pub AreTasks : Order → List Info → List Name → List Task → Type 0
AreTasks order p ns [] = ⊤
AreTasks order p ns (t ∷ more) =
    IsTask order p (add_in (wanted order p more) ns) t × AreTasks order p ns more

-- The names of what was found.
abbrev pub names_of : List Info → Seen → List Name
names_of p s = map (name_at p) s.found

-- A task can be made behind what was found.
abbrev pub CanMake : Way → List Info → Seen → Task → Type 0
CanMake way p s t = IsTask (order_of way) p (names_of p s) t

-- The same of all tasks.
abbrev pub CanMakeAll : Way → List Info → Seen → List Task → Type 0
CanMakeAll way p s ts = AreTasks (order_of way) p (names_of p s) ts

-- The work of a task, in the length of walks. No two classes are looked at for it.
abbrev pub weight_of : Order → List Info → Task → ℕ
weight_of order p (Enter a) = length (walk order p a) + length (walk order p a)
weight_of order p (Leave a) = 1

-- The same of all tasks.
abbrev pub weight : Order → List Info → List Task → ℕ
weight order p [] = 0
weight order p (t ∷ more) = weight order p more + weight_of order p t

-- ---- what was found

-- What was found are classes of the program, and all above a closed one was found.
pub record IsSeen (order : Order) (p : List Info) (s : Seen) : Type 0 where
  pub within : (k b : ℕ) → slice_get s.found k ≡ Some b → b < length p
  pub closed : (a : ℕ) → is_among a s.closed ≡ true → AreThere (names_of p s) (walk order p a)

-- ---- what a step does

-- The supers that a walk goes on to are entered before all else.
pub record AddsSteps (order : Order) (p : List Info) (a : ℕ) (old new : List Task) : Type 0 where
  pub over : List ℕ
  pub named : map (name_at p) over ≡ steps order (outline_of (look p (name_at p a)))
  pub within : (k b : ℕ) → slice_get over k ≡ Some b → b < length p
  pub tasks : new ≡ old ++ enters_of over

-- The interfaces of a class are entered before all else.
pub record AddsInterfaces (p : List Info) (a : ℕ) (old new : List Task) : Type 0 where
  pub over : List ℕ
  pub named : map (name_at p) over ≡ interfaces_in (outline_of (look p (name_at p a)))
  pub within : (k b : ℕ) → slice_get over k ≡ Some b → b < length p
  pub tasks : new ≡ old ++ enters_of over

-- The same by the way of a walk.
abbrev pub AddsStepsOf : Way → List Info → ℕ → List Task → List Task → Type 0
AddsStepsOf way p a old new = AddsSteps (order_of way) p a old new

-- A class that is closed is passed over. Another one is found, if the walk comes to it first, and
-- its supers are entered before it is left.
pub data Enters (order : Order) (p : List Info) (a : ℕ) (old : Seen) (ts : List Task)
    (new : Seen) (more : List Task) : Type 0 where
  passes :
      is_among a old.closed ≡ true → new ≡ old → more ≡ ts →
      Enters order p a old ts new more
  enters :
      new.closed ≡ old.closed →
      names_of p new ≡ add_in (before order (name_at p a)) (names_of p old) →
      AddsSteps order p a (ts ++ Leave a ∷ []) more → Enters order p a old ts new more

-- A class is found, if the walk comes to it last, and closed.
pub record Leaves (order : Order) (p : List Info) (a : ℕ) (old new : Seen) : Type 0 where
  pub closed : new.closed ≡ with_number a old.closed
  pub names : names_of p new ≡ add_in (behind order (name_at p a)) (names_of p old)

-- A task is made: what all tasks find stays as it was, and less is left to do.
pub record Makes (order : Order) (p : List Info) (t : Task) (old : Seen) (ts : List Task)
    (new : Seen) (more : List Task) : Type 0 where
  pub tasks : AreTasks order p (names_of p new) more
  pub names :
      add_in (wanted order p more) (names_of p new)
      ≡ add_in (wanted order p (ts ++ t ∷ [])) (names_of p old)
  pub less : weight order p more < weight order p (ts ++ t ∷ [])

-- These names are found behind what was found.
pub record Finds (order : Order) (p : List Info) (ms : List Name) (old new : Seen) : Type 0 where
  pub closed : new.closed ≡ old.closed
  pub names : names_of p new ≡ add_in ms (names_of p old)
  pub seen : IsSeen order p new

-- A class is, where a walk comes to it before all above it.
abbrev pub FindsBefore : Way → List Info → ℕ → Seen → Seen → Type 0
FindsBefore way p a old new =
    Finds (order_of way) p (before (order_of way) (name_at p a)) old new

-- A class is, where a walk comes to it behind all above it.
abbrev pub FindsBehind : Way → List Info → ℕ → Seen → Seen → Type 0
FindsBehind way p a old new =
    Finds (order_of way) p (behind (order_of way) (name_at p a)) old new

-- What all tasks come to is.
abbrev pub FindsWanted : Way → List Info → List Task → Seen → Seen → Type 0
FindsWanted way p ts old new =
    names_of p new ≡ add_in (wanted (order_of way) p ts) (names_of p old)

-- The walks of these names.
abbrev pub walks : Order → List Info → List Name → List Name
walks order p ns = concat_over (λ m. names_in (nodes order (look p) m)) ns

-- The supers of all these classes are entered before all else.
pub record EntersAbove (p : List Info) (ids : List ℕ) (ts : List Task) : Type 0 where
  pub over : List ℕ
  pub tasks : ts ≡ enters_of over
  pub within : AreWithin p over
  pub above :
      (m : Name) →
      is_listed m (walks Searching p (map (name_at p) over)) ≡ is_above_any p ids m
