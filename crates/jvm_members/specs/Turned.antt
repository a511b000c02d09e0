-- What a whole row comes to that may put a frame on the others.
use Rattle.std.specs.Prelude.{◌≡◌, ◌⊎◌, List, None, Some, IfSome, IsSomeAnd}
use Rattle.machine_rules.specs.State as def
use Rattle.machine_rules.specs.Effects.{Effect, NoRow}
use Rattle.class_link.specs.Info.{Info}
use Rattle.jvm_frames.specs.Frames.{NumberedFrame, NumberedFrames}
use Rattle.jvm_world.specs.declared.world.World.{World}
use Rattle.jvm_world.specs.View.{Means, Comes}
use Rattle.jvm_rows.specs.declared.effect.Effect as code
use Rattle.jvm_rows.specs.declared.effect.Effect.TheVariants as effect
use Rattle.jvm_rows.specs.Effects.{RowOf}
use Rattle.jvm_unwind.specs.declared.turn.Turn.{Turn}
use Rattle.jvm_unwind.specs.declared.turn.Turn.TheVariants as turn
use Rattle.jvm_unwind.specs.Turns.{frames_of, row_at}
use Rattle.jvm_unwind.specs.Unwinding.{IsOf}
use Rattle.jvm_initialization.specs.Begins.{HasBegun}

-- ---- what a row comes to

-- By what the code answers, in one world. Where no row applies frames are as they were, and of the
-- world nothing is said: what the row names may have been consulted by then.
abbrev pub TurnedTo :
    List Info → Turn → NumberedFrames → NumberedFrames → World → Effect → Type 0
TurnedTo p turn.NoRow old new u d = (d ≡ NoRow) × (new ≡ old)
TurnedTo p turn.Goes old new u d = Comes p u (frames_of p new) None d
TurnedTo p (turn.Throws x) old new u d = Comes p u (frames_of p new) (Some x) d

-- What a whole row comes to, where a frame runs, in each world that is meant.
abbrev pub TurnsWhole :
    List Info → RowOf → Turn → NumberedFrames → NumberedFrames → World → World → Type 0
TurnsWhole p row t old new w u =
    IfSome old.frame (λ f. (v : def.World) → Means p w v →
    TurnedTo p t old new u (row_at p (row w.limits f.room) f old v))

-- What a row that keeps the frame comes to, as a turn.
abbrev pub turn_of : code.Effect → Turn
turn_of effect.NoRow = turn.NoRow
turn_of effect.Goes = turn.Goes
turn_of (effect.Throws x) = turn.Throws x

-- ---- frames

-- The running frame has gone on in its method, over the same callers.
abbrev pub HasGoneOn : NumberedFrame → NumberedFrames → NumberedFrames → Type 0
HasGoneOn f old new = IsSomeAnd new.frame (IsOf f) × (new.callers ≡ old.callers)

-- What becomes of the frames, where one runs: they are as they were, a frame of a method of the
-- program stands on them, or the running one has gone on.
abbrev pub StaysBeginsOrGoes : List Info → NumberedFrames → NumberedFrames → Type 0
StaysBeginsOrGoes p old new =
    IfSome old.frame (λ f. (new ≡ old) ⊎ HasBegun p old new ⊎ HasGoneOn f old new)
