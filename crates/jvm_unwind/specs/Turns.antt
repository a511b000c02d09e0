-- What a step comes to that may change which frames there are, of frames and a world by number.
use Rattle.std.specs.Prelude.{◌≡◌, ℕ, List, [], ◌∷◌, map, Option, None, Some, IfSome}
use Rattle.machine_rules.specs.State as def
use Rattle.machine_rules.specs.Effects.{Effect, NoRow}
use Rattle.class_link.specs.Info.{Info}
use Rattle.class_table.specs.Table.{name_at}
use Rattle.jvm_state.specs.Rows.{Row}
use Rattle.jvm_frames.specs.Frames.{NumberedFrame, NumberedFrames, framed}
use Rattle.jvm_world.specs.declared.world.World.{World}
use Rattle.jvm_world.specs.View.{Means, Comes}
use Rattle.jvm_unwind.specs.declared.turn.Turn.{Turn}
use Rattle.jvm_unwind.specs.declared.turn.Turn.TheVariants as turn

-- ---- frames by the names of their classes

abbrev pub frame_of : List Info → NumberedFrame → def.Frame
frame_of p f = framed (name_at p f.class) f

-- The frame that runs, if one does, and those below it.
abbrev pub frames_on : List Info → Option NumberedFrame → List NumberedFrame → List def.Frame
frames_on p None fs = []
frames_on p (Some f) fs = frame_of p f ∷ map (frame_of p) fs

abbrev pub frames_of : List Info → NumberedFrames → List def.Frame
frames_of p s = frames_on p s.frame s.callers

-- ---- what a step comes to

-- In each world that is meant it comes to these frames, with this object thrown, if one is.
abbrev pub ComesAt :
    List Info → World → World → List def.Frame → Option ℕ → (def.World → Effect) → Type 0
ComesAt p w u fs x go = (v : def.World) → Means p w v → Comes p u fs x (go v)

-- By what the code answers. Where no row applies frames and world are as they were.
abbrev pub TurnsTo :
    List Info → (def.World → Effect) → Turn → NumberedFrames → NumberedFrames → World → World →
    Type 0
TurnsTo p go turn.NoRow old new w u =
    ((v : def.World) → Means p w v → go v ≡ NoRow) × (new ≡ old) × (u ≡ w)
TurnsTo p go turn.Goes old new w u = ComesAt p w u (frames_of p new) None go
TurnsTo p go (turn.Throws x) old new w u = ComesAt p w u (frames_of p new) (Some x) go

-- The row of the frame that runs, over those below it.
abbrev pub row_at : List Info → Row → NumberedFrame → NumberedFrames → def.World → Effect
row_at p row f old v = row v (frame_of p f) (map (frame_of p) old.callers)

-- What a row comes to, where a frame runs.
abbrev pub Turns :
    List Info → Row → Turn → NumberedFrames → NumberedFrames → World → World → Type 0
Turns p row t old new w u = IfSome old.frame (λ f. TurnsTo p (row_at p row f old) t old new w u)
