-- An object is thrown in the frame that runs (JVMS 2.10).
use Rattle.std.specs.Prelude.{◌≡◌, ◌⊎◌, ℕ, ◌<◌, ◌≤◌, Bool, true, false, if◌then◌else◌, All, List, [], map, length, Option, None, Some, IfSome, IsSomeAnd}
use Rattle.class_model.specs.declared.class.ClassId.{ClassId}
use Rattle.program_rules.specs.Linked.{method_in}
use Rattle.machine_rules.specs.declared.machine.Limits.{Limits}
use Rattle.machine_rules.specs.State as def
use Rattle.machine_rules.specs.Effects.{Effect, throws_from}
use Rattle.machine_rules.specs.Calls.{is_awaited}
use Rattle.machine_rules.specs.Throwing.{Caught, catch_by, chooses, find_handler, rows_of, expects, breaks, pops, is_initializer_method, unwinds}
use Rattle.machine_rules.specs.Initialisation.{marks}
use Rattle.machine_rules.specs.declared.machine.InitState.TheVariants.{Failed}
use Rattle.class_link.specs.Info.{Info}
use Rattle.class_table.specs.Table.{look, name_at}
use Rattle.jvm_state.specs.Rows.{Row}
use Rattle.jvm_frames.specs.Frames.{NumberedFrame, NumberedFrames, left_behind}
use Rattle.jvm_world.specs.declared.world.World.{World}
use Rattle.jvm_world.specs.View.{Means, Comes}
use Rattle.jvm_unwind.specs.declared.row.Catch.{Catch}
use Rattle.jvm_unwind.specs.declared.row.CatchRow.{CatchRow}
use Rattle.jvm_unwind.specs.Rows.{catch_name, catch_row_of, IsCatch, IsCatchRow}
use Rattle.jvm_unwind.specs.Searches.{having}
use Rattle.jvm_unwind.specs.declared.thrown.Thrown.{Thrown}
use Rattle.jvm_unwind.specs.declared.unwinding.Handlers.{Handlers}
use Rattle.jvm_unwind.specs.Thrown.{names_of}
use Rattle.jvm_unwind.specs.Turns.{frame_of, ComesAt}

-- ---- what is known of the frame

-- What a method of a program has for objects that are thrown in it.
pub record AreHandlersOf (p : List Info) (class method : ℕ) (h : Handlers) : Type 0 where
  pub rows : (f : def.Frame) → f.class ≡ name_at p class → f.method ≡ method →
      map (catch_row_of p) h.rows.items ≡ rows_of (look p) f
  pub right : All (IsCatchRow p) h.rows.items
  pub initializes : h.initializes
      ≡ is_initializer_method (method_in (look p (name_at p class)) method)

-- A frame of that method. One that has handlers has room for an object on its stack, as all code
-- has that is accepted (JVMS 4.10.1.6).
pub record IsHandled (p : List Info) (h : Handlers) (f : NumberedFrame) : Type 0 where
  pub class : f.class < length p
  pub handlers : AreHandlersOf p f.class f.method h
  pub room : (h.rows.items ≡ []) ⊎ (1 ≤ f.room)

-- ---- the search

-- The world behind what was tested.
abbrev pub tested : World → def.World → def.World
tested u v = having v u.consulted

-- What these rows come to in each world that is meant.
abbrev pub Searches :
    List Info → Thrown → List CatchRow → ℕ → World → Option ℕ → World → Type 0
Searches p t rows at w to u =
    (v : def.World) → Means p w v →
    Means p u (tested u v)
    × (find_handler (look p) (names_of p t) at (map (catch_row_of p) rows) v
    ≡ record { world = tested u v; target = to })

-- The same of one class that is named.
abbrev pub Tests : List Info → Thrown → Catch → World → Bool → World → Type 0
Tests p t c w b u =
    (v : def.World) → Means p w v →
    Means p u (tested u v)
    × ((to : ℕ) (rest : def.World → Caught) →
    catch_by (look p) (names_of p t) (catch_name p c) to v rest ≡ chooses b (tested u v) to rest)

-- ---- a frame is popped

-- What is thrown from the frames below, if anything is, whatever they are.
abbrev pub Leaves :
    List Info → World → World → Option ℕ → (def.World → List def.Frame → Effect) → Type 0
Leaves p w u x go = (v : def.World) (fs : List def.Frame) → Means p w v → Comes p u fs x (go v fs)

-- An initializer of a class fails.
abbrev pub failing :
    List Info → Limits → ℕ → ℕ → Thrown → def.World → List def.Frame → Effect
failing p q class x t = λ v fs. breaks q (marks (name_at p class) Failed v) fs x (names_of p t)

-- The object leaves the last frame.
abbrev pub leaving : List Info → ℕ → Thrown → def.World → Effect
leaving p x t = λ v.
    if is_awaited v then expects (look p) v x (names_of p t) v.expected else throws_from [] v x

-- A frame is popped: that of the initializer of this class, or another one.
abbrev pub popping :
    List Info → Limits → Option ClassId → ℕ → Thrown → def.World → List def.Frame → Effect
popping p q None x t = λ v fs. pops (look p) v fs x (names_of p t)
popping p q (Some c) x t = failing p q c.0 x t

-- What is thrown from these frames, if anything is.
abbrev pub Passes :
    List Info → World → World → List NumberedFrame → Option ℕ →
    (def.World → List def.Frame → Effect) → Type 0
Passes p w u cs x go = ComesAt p w u (map (frame_of p) cs) x (λ v. go v (map (frame_of p) cs))

-- The exception that is awaited, if one is.
abbrev pub IsAwaited : List Info → World → Option Catch → Type 0
IsAwaited p w (Some c) =
    IsCatch p c
    × ((v : def.World) → Means p w v →
    (is_awaited v ≡ true) × IsSomeAnd v.expected (λ n. catch_name p c ≡ Some n))
IsAwaited p w None = (v : def.World) → Means p w v → is_awaited v ≡ false

-- ---- the whole step

-- The row of an object that is thrown.
abbrev pub unwinding : List Info → Limits → ℕ → Row
unwinding p q x = λ v f fs. unwinds (look p) q v f fs x

-- A frame of the same method, with as much room.
pub record IsOf (f g : NumberedFrame) : Type 0 where
  pub class : g.class ≡ f.class
  pub method : g.method ≡ f.method
  pub room : g.room ≡ f.room

-- The frame that ran is left, or it goes on.
abbrev pub IsLeftOrOn : NumberedFrames → NumberedFrames → Type 0
IsLeftOrOn old new =
    (new ≡ left_behind old.callers)
    ⊎ (IfSome old.frame (λ f. IsSomeAnd new.frame (IsOf f)) × (new.callers ≡ old.callers))
