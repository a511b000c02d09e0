-- What a turn comes to, as far as the next step needs it.
use Rattle.std.specs.Prelude.{◌≡◌, ℕ, List, None, Some, IfSome}
use Rattle.machine_rules.specs.State as def
use Rattle.machine_rules.specs.Effects.{Effect, NoRow}
use Rattle.class_link.specs.Info.{Info}
use Rattle.jvm_state.specs.Rows.{Row}
use Rattle.jvm_frames.specs.Frames.{NumberedFrames}
use Rattle.jvm_world.specs.declared.world.World.{World}
use Rattle.jvm_world.specs.View.{Means}
use Rattle.jvm_rows.specs.declared.effect.Effect as code
use Rattle.jvm_rows.specs.declared.effect.Effect.TheVariants as effect
use Rattle.jvm_rows.specs.Effects.{RowOf}
use Rattle.jvm_unwind.specs.declared.turn.Turn.{Turn}
use Rattle.jvm_unwind.specs.declared.turn.Turn.TheVariants as turn
use Rattle.jvm_unwind.specs.Turns.{frames_of, row_at, ComesAt}

-- The turn of a row by which the running frame stays.
abbrev pub turn_of : code.Effect → Turn
turn_of effect.NoRow = turn.NoRow
turn_of effect.Goes = turn.Goes
turn_of (effect.Throws x) = turn.Throws x

-- By what the code answers. Where no row applies the run ends, so nothing is said of frames and
-- world.
abbrev pub TurnedTo :
    List Info → (def.World → Effect) → Turn → NumberedFrames → World → World → Type 0
TurnedTo p go turn.NoRow new w u = (v : def.World) → Means p w v → go v ≡ NoRow
TurnedTo p go turn.Goes new w u = ComesAt p w u (frames_of p new) None go
TurnedTo p go (turn.Throws x) new w u = ComesAt p w u (frames_of p new) (Some x) go

-- What a row comes to, where a frame runs.
abbrev pub Turned :
    List Info → RowOf → Turn → NumberedFrames → NumberedFrames → World → World → Type 0
Turned p row t old new w u =
    IfSome old.frame (λ f. TurnedTo p (row_at p (row w.limits f.room) f old) t new w u)

-- A row that doesn't ask the limits of the run, nor the room of the stack.
abbrev pub always : Row → RowOf
always row = λ q room. row
