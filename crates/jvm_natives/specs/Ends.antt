-- How the call of a native method ends, as rows over the values on the stack.
use Rattle.std.specs.Prelude.{◌≡◌, ℕ, List, ◌∷◌, drop, Option, None, Some}
use Rattle.program_rules.specs.declared.value.Value.{Value}
use Rattle.program_rules.specs.declared.value.Value.TheVariants.{Ref}
use Rattle.program_rules.specs.Deeds.{Deed, Meaning}
use Rattle.machine_rules.specs.declared.machine.Limits.{Limits}
use Rattle.machine_rules.specs.declared.machine.Stop.TheVariants.{HeapPassed}
use Rattle.machine_rules.specs.State as def
use Rattle.machine_rules.specs.Effects.{goes_with, pushes, unless_full}
use Rattle.machine_rules.specs.Performing.{NativeResult, HeapFull, performs}
use Rattle.machine_rules.specs.Calls.{goes_on, ends_native}
use Rattle.machine_rules.specs.Arrays.{copies}
use Rattle.class_link.specs.Info.{Info}
use Rattle.class_table.specs.Table.{look}
use Rattle.jvm_frames.specs.Frames.{args_on}
use Rattle.jvm_world.specs.declared.world.World.{World}
use Rattle.jvm_world.specs.View.{Means}
use Rattle.jvm_rows.specs.Effects.{RowOf}
use Rattle.lib_core.specs.declared.performing.NativeEnd.{NativeEnd}
use Rattle.lib_core.specs.View.{result_of}

-- ---- rows

-- A frame without the uppermost values of its stack.
abbrev pub without : ℕ → def.Frame → def.Frame
without count f = record f { stack = drop count f.stack }

-- A native method is called with the uppermost values of the stack, so many.
abbrev pub calling : List Info → ℕ → Meaning → RowOf
calling p count meaning = λ q room w f fs.
    ends_native (look p) q w (without count f) fs room
    (performs q.heap w (meaning w.heap (args_on count f.stack)))

-- Its deed is done.
abbrev pub doing : List Info → ℕ → Deed → RowOf
doing p count d = λ q room w f fs.
    ends_native (look p) q w (without count f) fs room (performs q.heap w d)

-- It has come to this end.
abbrev pub ending : List Info → ℕ → NativeEnd → RowOf
ending p count e = λ q room w f fs.
    ends_native (look p) q w (without count f) fs room (result_of q.heap w e)

-- The frame goes on with a result, if there is one, in the place of so many values.
abbrev pub giving : ℕ → Option Value → RowOf
giving count v = λ q room w f fs. goes_on w (without count f) fs room v

-- The run is over, in the frame without so many values.
abbrev pub filling : ℕ → RowOf
filling count = λ q room w f fs.
    goes_with (record w { over = Some HeapPassed }) (without count f ∷ fs)

-- The reference to a new object is pushed in the place of so many values, or the run is over.
abbrev pub making : ℕ → (Limits → def.World → Option (def.World × ℕ)) → RowOf
making count make = λ q room w f fs.
    unless_full w (without count f ∷ fs) (make q w)
    (λ a. pushes a.0 (without count f) fs room (Ref a.1) (drop count f.stack))

-- The `clone` of an array is called with so many values.
abbrev pub copying : ℕ → RowOf
copying count = λ q room w f fs. copies q w (without count f) fs room (args_on count f.stack)

-- ---- deeds in the world

-- A deed has come to this end, in a world that is meant.
pub record EndsAs (p : List Info) (limit : ℕ) (u : World) (e : NativeEnd) (v : def.World) (d : Deed)
    : Type 0 where
  pub world : def.World
  pub means : Means p u world
  pub ends : (q : Limits) (f : def.Frame) (fs : List def.Frame) (room : ℕ) →
      ends_native (look p) q v f fs room (performs limit v d)
      ≡ ends_native (look p) q world f fs room (result_of limit world e)

-- In each world that is meant the heap would be passed, and nothing has changed.
pub record IsFull (p : List Info) (w u : World) (d : Deed) : Type 0 where
  pub full : (v : def.World) → Means p w v → performs w.limits.heap v d ≡ HeapFull
  pub same : u ≡ w

-- What a deed comes to; none where the heap would be passed.
abbrev pub PerformsTo : List Info → World → World → Deed → Option NativeEnd → Type 0
PerformsTo p w u d None = IsFull p w u d
PerformsTo p w u d (Some e) =
    (v : def.World) → Means p w v → EndsAs p w.limits.heap u e v d
