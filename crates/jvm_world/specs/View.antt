-- What the world of a machine means by the names of classes, and what its operations make of it.
use Rattle.std.specs.Prelude.{◌≡◌, ℕ, ℤ, pos, ◌<◌, ◌+◌, ◌^◌, nat_lt, nat_le, List, [], ◌∷◌, map, length, slice_set, Bool, true, false, Option, Some, None, is_some, codes, zero, suc}
use Rattle.std.specs.Option.{option_map}
use Rattle.std.specs.BTreeMap.{get}
use Rattle.std.specs.Cmp.Lexicographic.{slice_cmp}
use Rattle.std.specs.Ordering.{nat_cmp}
use Rattle.program_rules.specs.Names.{Name}
use Rattle.program_rules.specs.declared.value.Value.{Value}
use Rattle.program_rules.specs.Kinds.{Kind}
use Rattle.program_rules.specs.Objects as objects
use Rattle.program_rules.specs.Tests as tests
use Rattle.machine_rules.specs.declared.machine.Stop.TheVariants.{HeapPassed}
use Rattle.machine_rules.specs.State as def
use Rattle.program_rules.specs.declared.fault.Fault.{Fault}
use Rattle.machine_rules.specs.Arrays.{array_kind}
use Rattle.machine_rules.specs.Effects.{Effect, Goes, throws}
use Rattle.machine_rules.specs.Fields.{static_value, with_values}
use Rattle.machine_rules.specs.NewObjects.{made_for}
use Rattle.machine_rules.specs.TypeRows.{monitor_count, opens}
use Rattle.jvm_values.specs.declared.object.ObjKind.{ObjKind}
use Rattle.jvm_values.specs.declared.object.ObjKind.TheVariants as kind
use Rattle.jvm_values.specs.declared.object.Object.{Object}
use Rattle.jvm_values.specs.declared.kept.KeptBox.{KeptBox}
use Rattle.class_link.specs.Info.{Info}
use Rattle.class_link.specs.Symbols.{kind_of}
use Rattle.class_table.specs.declared.scripted.Call.{Call}
use Rattle.class_table.specs.declared.scripted.Test.{Test}
use Rattle.class_table.specs.Table.{IsProgram, name_at}
use Rattle.class_table.specs.Seen.{IsConsultedOf}
use Rattle.jvm_world.specs.Holding.{held, value_or, opened}
use Rattle.jvm_world.specs.Classes.{AreMachineClasses}
use Rattle.jvm_world.specs.declared.made.Made.{Made}
use Rattle.jvm_world.specs.declared.world.World.{World}

-- ---- objects, calls

-- What an object is of.
abbrev pub kind_in : List Info → ObjKind → objects.ObjectKind
kind_in p (kind.Plain class) = objects.Plain (name_at p class.0)
kind_in p (kind.Array k) = objects.ArrayOf (kind_of k)
kind_in p kind.Text = objects.Plain (codes "java/lang/String")

abbrev pub object_of : List Info → Object → objects.Object
object_of p o = record {
  kind = kind_in p o.kind;
  values = o.values;
  text = o.text;
  items = o.items;
}

abbrev pub objects_of : List Info → List Object → List objects.Object
objects_of p os = map (object_of p) os

abbrev pub box_of : KeptBox → def.Box
box_of b = record { class = b.class; number = b.number; object = b.object }

abbrev pub call_of : Call → tests.Call
call_of c = record { class = c.class; method = c.method; kind = c.kind }

abbrev pub test_of : Test → tests.Test
test_of t = record {
  class = t.class;
  method = t.method;
  script = map call_of t.script;
  expected = t.expected;
}

-- What is kept of a class by its number, kept by its name.
abbrev pub named : {A : Type 0} → List Info → ℕ × A → Name × A
named p x = (name_at p x.0, x.1)

-- ---- the world

-- What the definitions list in order of writing and the code keeps by number or by name, without
-- that order: the values of static fields, the objects of literals and of classes, and the open
-- monitorenters.
pub record History : Type 0 where
  pub statics : List def.Static
  pub literals : List (Name × ℕ)
  pub class_objects : List (Name × ℕ)
  pub monitors : List (ℕ × ℕ)

-- The world by names, with such a history.
unfoldable pub world_of : List Info → World → History → def.World
world_of p w h = record {
  heap = objects_of p w.heap.objects;
  used = w.heap.used;
  statics = h.statics;
  inits = map (named p) w.begun;
  literals = h.literals;
  class_objects = h.class_objects;
  boxes = map box_of w.kept.boxes;
  monitors = h.monitors;
  consulted = w.consulted.names;
  reached = map (named p) w.reached;
  expected = w.expected;
  instance = w.instance;
  running = option_map call_of w.script.running;
  script = map call_of w.script.rest;
  over = w.over;
}

-- Each static field of the program's classes holds what was stored last of these.
abbrev pub AreStatics : List Info → List (List (Option Value)) → List def.Static → Type 0
AreStatics p rows ss =
    (class place : ℕ) (k : Kind) → class < length p →
    static_value (name_at p class) place k ss ≡ value_or k (held class place rows)

-- The objects that were made for names.
abbrev pub AreMade : Made → List (Name × ℕ) → Type 0
AreMade made xs = (n : Name) → get (slice_cmp nat_cmp) made.objects n ≡ made_for n xs

-- The open monitorenters of each object.
abbrev pub AreMonitors : List ℕ → List (ℕ × ℕ) → Type 0
AreMonitors counts ms = (x : ℕ) → monitor_count x ms ≡ opened x counts

-- A history leads to what the code holds.
pub record IsHistoryOf (p : List Info) (w : World) (h : History) : Type 0 where
  pub statics : AreStatics p w.statics h.statics
  pub literals : AreMade w.literals h.literals
  pub class_objects : AreMade w.class_objects h.class_objects
  pub monitors : AreMonitors w.monitors h.monitors

-- The code's world means this world of the definitions.
pub record Means (p : List Info) (w : World) (v : def.World) : Type 0 where
  pub past : History
  pub history : IsHistoryOf p w past
  pub world : v ≡ world_of p w past

-- The numbers of classes that something is kept of are those of the program.
abbrev pub AreClasses : {A : Type 0} → List Info → List (ℕ × A) → Type 0
AreClasses p [] = Unit {0}
AreClasses p (x ∷ xs) = (x.0 < length p) × AreClasses p xs

-- Each object has fewer slots than an int counts.
abbrev pub AreShort : List Object → Type 0
AreShort [] = Unit {0}
AreShort (o ∷ os) = (length o.values < 2 ^ 31) × AreShort os

-- What always holds of a world of a program.
pub record IsWorldOf (p : List Info) (w : World) : Type 0 where
  pub program : IsProgram p
  pub limit : w.heap.limit ≡ w.limits.heap
  pub small : w.limits.heap < 2 ^ 31
  pub lengths : AreShort w.heap.objects
  pub begun : AreClasses p w.begun
  pub consulted : IsConsultedOf p w.consulted
  pub reached : AreClasses p w.reached
  pub classes : AreMachineClasses p w.classes

-- ---- what operations make of it

-- A world of the program still, within the same limits.
pub record IsKept (p : List Info) (old new : World) : Type 0 where
  pub world : IsWorldOf p new
  pub limits : new.limits ≡ old.limits

-- The world goes on as the definitions' one does.
abbrev pub Moves : List Info → World → World → (def.World → def.World) → Type 0
Moves p old new go = (v : def.World) → Means p old v → Means p new (go v)

-- An object of this number was given, and a world.
pub record Gives
    (p : List Info) (new : World) (x : ℕ) (a : Option (def.World × ℕ)) : Type 0 where
  pub world : def.World
  pub means : Means p new world
  pub given : a ≡ Some (world, x)

-- The heap would have been passed, so the run is over.
pub record Fills
    (p : List Info) (new : World) (v : def.World) (a : Option (def.World × ℕ)) : Type 0 where
  pub means : Means p new (record v { over = Some HeapPassed })
  pub full : a ≡ None

-- What takes words of the heap gives an object, or ends the run.
abbrev pub Allocates :
    List Info → World → World → (def.World → Option (def.World × ℕ)) → Option ℕ → Type 0
Allocates p old new make (Some x) = (v : def.World) → Means p old v → Gives p new x (make v)
Allocates p old new make None = (v : def.World) → Means p old v → Fills p new v (make v)

-- Whether so many words more are within the limit of the heap, in each world that is meant.
abbrev pub TellsRoom : List Info → World → ℕ → Bool → Type 0
TellsRoom p w words there =
    (v : def.World) → Means p w v → nat_le (v.used + words) w.limits.heap ≡ there

-- Whether there is room for what takes words of the heap, or it was made before.
abbrev pub TellsMade : List Info → World → (def.World → Option (def.World × ℕ)) → Bool → Type 0
TellsMade p w make there = (v : def.World) → Means p w v → is_some (make v) ≡ there

-- An effect comes to these frames, to this object that is thrown, and to what the world means.
pub record Comes
    (p : List Info) (new : World) (frames : List def.Frame) (object : Option ℕ) (d : Effect)
    : Type 0 where
  pub world : def.World
  pub means : Means p new world
  pub goes : d ≡ Goes (record { frames = frames; thrown = object; world = world })

-- The machine throws in a world, or the run is over.
abbrev pub Throws : List Info → World → World → Fault → Option ℕ → Type 0
Throws p old new fault object =
    (v : def.World) (frames : List def.Frame) → Means p old v →
    Comes p new frames object (throws old.limits v frames fault)

-- One monitorenter of an object is open no more.
pub record Closes (p : List Info) (x : ℕ) (new : World) (v : def.World) : Type 0 where
  pub left : ℕ
  pub count : monitor_count x v.monitors ≡ suc left
  pub means : Means p new (opens x left v)

-- None of an object was open, and nothing has changed.
pub record IsClosed (p : List Info) (x : ℕ) (new : World) (v : def.World) : Type 0 where
  pub count : monitor_count x v.monitors ≡ zero
  pub means : Means p new v

-- What a monitorexit comes to, by whether there was one to close.
abbrev pub Exits : List Info → ℕ → World → World → Bool → Type 0
Exits p x old new true = (v : def.World) → Means p old v → Closes p x new v
Exits p x old new false = (v : def.World) → Means p old v → IsClosed p x new v

-- The next call of the script runs.
abbrev pub Takes : List Info → World → World → Type 0
Takes p old new =
    (v : def.World) (c : tests.Call) (rest : List tests.Call) → Means p old v →
    v.script ≡ c ∷ rest → Means p new (record v { running = Some c; script = rest })

-- ---- objects that are there

-- The object of a number is this one in each world that is meant.
abbrev pub IsObjectIn : List Info → World → ℕ → Option Object → Type 0
IsObjectIn p w x o =
    (v : def.World) → Means p w v → objects.object_at v.heap x ≡ option_map (object_of p) o

-- The number of an array's elements; none where it is no array.
abbrev pub length_in : Option objects.Object → Option ℤ
length_in None = None
length_in (Some o) = option_map (λ k. pos (length o.values)) (array_kind o.kind)

-- The same of the object of a number, in each world that is meant.
abbrev pub TellsLength : List Info → World → ℕ → Option ℤ → Type 0
TellsLength p w x n =
    (v : def.World) → Means p w v → length_in (objects.object_at v.heap x) ≡ n

-- A slot of an object is there, and holds this value from now on.
pub record IsSet
    (p : List Info) (new : World) (x slot : ℕ) (value : Value) (v : def.World) (b : objects.Object)
    : Type 0 where
  pub there : nat_lt slot (length b.values) ≡ true
  pub means : Means p new (with_values x b (slice_set b.values slot value) v)

-- What a store into a slot of an object comes to, by whether the slot is there.
abbrev pub SetsSlot : List Info → World → World → ℕ → ℕ → Value → Bool → Type 0
SetsSlot p old new x slot value true =
    (v : def.World) (b : objects.Object) → Means p old v →
    objects.object_at v.heap x ≡ Some b → IsSet p new x slot value v b
SetsSlot p old new x slot value false =
    (v : def.World) (b : objects.Object) → Means p old v →
    objects.object_at v.heap x ≡ Some b → nat_lt slot (length b.values) ≡ false
