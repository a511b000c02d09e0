-- What stands before the use of a class (JVMS 5.5), by the class's number.
use Rattle.std.specs.Prelude.{◌≡◌, ℕ, ◌<◌, Bool, false, if◌then◌else◌, List, [], ◌∷◌, ◌++◌, map, length}
use Rattle.std.specs.List.{filter}
use Rattle.program_rules.specs.Names.{Name}
use Rattle.program_rules.specs.Outlines.{outline_of, is_interface_class}
use Rattle.program_rules.specs.Programs.{Look, Node, Family, family}
use Rattle.machine_rules.specs.declared.machine.InitState.{InitState}
use Rattle.machine_rules.specs.declared.machine.Limits.{Limits}
use Rattle.machine_rules.specs.State as def
use Rattle.machine_rules.specs.Effects.{Effect}
use Rattle.machine_rules.specs.Initialisation as rules
use Rattle.class_link.specs.Info.{Info}
use Rattle.class_table.specs.Table.{look, name_at}
use Rattle.class_family.specs.Families.{node_of, across, GoesOn}
use Rattle.jvm_frames.specs.Frames.{NumberedFrames}
use Rattle.jvm_world.specs.declared.world.World.{World}
use Rattle.jvm_world.specs.View.{Means}
use Rattle.jvm_unwind.specs.Turns.{frames_of, TurnsTo}
use Rattle.jvm_initialization.specs.declared.need.Need.{Need}
use Rattle.jvm_initialization.specs.declared.need.Need.TheVariants as need
use Rattle.jvm_initialization.specs.declared.ready.Readied.{Readied}
use Rattle.jvm_initialization.specs.declared.ready.Readied.TheVariants as readied
use Rattle.jvm_initialization.specs.Begins.{begin_at}

-- ---- classes by number

abbrev pub node_at : List Info → ℕ → Node
node_at p a = node_of (look p) (name_at p a)

-- How far a class has come in a world.
abbrev pub state_at : List Info → ℕ → def.World → InitState
state_at p a v = rules.state_of v.inits (node_at p a)

-- What a class needs there.
abbrev pub need_at : List Info → ℕ → def.World → rules.Need
need_at p a v = rules.need_of v.inits (family (look p) (name_at p a))

-- Whether a class is an interface.
abbrev pub is_interface_at : List Info → ℕ → Bool
is_interface_at p a = is_interface_class (outline_of (look p (name_at p a)))

-- ---- what is needed of several

-- The need of one class, if it counts, before the rest.
abbrev pub need_before : List Info → ℕ → def.World → rules.Need → rules.Need
need_before p a v rest =
    if rules.is_initialised_before (node_at p a)
    then rules.need_with (state_at p a v) (node_at p a) rest
    else rest

-- The first need of these classes, in order.
abbrev pub need_among : Look → List Name → def.World → rules.Need
need_among p ns v =
    rules.first_need v.inits (filter rules.is_initialised_before (map (node_of p) ns))

-- ---- in the code's world

-- A need as the definitions have it.
abbrev pub need_of : List Info → Need → rules.Need
need_of p need.Ready = rules.Ready
need_of p (need.Begins c) = rules.Begins (begin_at p c.0)
need_of p need.Failing = rules.Failing

-- The class that is begun is one of the program.
abbrev pub IsWithin : List Info → Need → Type 0
IsWithin p need.Ready = Unit {0}
IsWithin p (need.Begins c) = c.0 < length p
IsWithin p need.Failing = Unit {0}

-- This need, where there is one, before the rest.
abbrev pub need_or : List Info → Need → rules.Need → rules.Need
need_or p need.Ready rest = rest
need_or p (need.Begins c) rest = rules.Begins (begin_at p c.0)
need_or p need.Failing rest = rules.Failing

-- How far a class has come, in each world that is meant.
abbrev pub TellsState : List Info → World → ℕ → InitState → Type 0
TellsState p w a s = (v : def.World) → Means p w v → state_at p a v ≡ s

-- What a class needs, in each world that is meant.
abbrev pub TellsNeed : List Info → World → ℕ → Need → Type 0
TellsNeed p w a n = (v : def.World) → Means p w v → need_at p a v ≡ need_of p n

-- A class that isn't an interface, and hasn't begun.
pub record IsToBegin (p : List Info) (w : World) (a : ℕ) : Type 0 where
  pub within : a < length p
  pub class : is_interface_at p a ≡ false
  pub fresh : (v : def.World) → Means p w v → rules.is_begun (state_at p a v) ≡ false

-- Two classes need the same.
abbrev pub NeedsSame : List Info → World → ℕ → ℕ → Type 0
NeedsSame p w a b = (v : def.World) → Means p w v → need_at p a v ≡ need_at p b v

-- The superclass hasn't begun either, and needs the same.
pub record GoesUp (p : List Info) (w : World) (a up : ℕ) : Type 0 where
  pub next : GoesOn p a up
  pub fresh : IsToBegin p w up
  pub same : NeedsSame p w a up

-- What a class needs is the first need of its interfaces, each behind its own, and of itself.
abbrev pub NeedsAcross : List Info → World → ℕ → Type 0
NeedsAcross p w a =
    (v : def.World) → Means p w v →
    need_at p a v
    ≡ need_among (look p) (across (look p) (name_at p a) ++ name_at p a ∷ []) v

-- ---- before the use of a class

-- What uses a class, once nothing stands before it.
abbrev pub Use : Type 0
Use = def.World → Family → Effect

-- The use of a class, over these frames.
abbrev pub using : List Info → Limits → ℕ → NumberedFrames → Use → def.World → Effect
using p q a s go = λ v. rules.when_ready (look p) q v (frames_of p s) (name_at p a) go

-- The use is left, in a world that the code's world means.
pub record LeavesUse
    (p : List Info) (a : ℕ) (u : World) (go : Use) (d : Effect) : Type 0 where
  pub world : def.World
  pub means : Means p u world
  pub left : d ≡ go world (family (look p) (name_at p a))

-- By what the code answers: nothing stands before the use, and frames are as they were; or a turn
-- was made.
abbrev pub ReadiesTo :
    List Info → Limits → ℕ → Readied → NumberedFrames → NumberedFrames → World → World → Use →
    Type 0
ReadiesTo p q a readied.Ready old new w u go =
    ((v : def.World) → Means p w v → LeavesUse p a u go (using p q a old go v)) × (new ≡ old)
ReadiesTo p q a (readied.Turned t) old new w u go = TurnsTo p (using p q a old go) t old new w u
