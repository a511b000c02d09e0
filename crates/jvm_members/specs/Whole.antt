-- What a whole row comes to that resolves a class or a field first.
use Rattle.std.specs.Prelude.{◌≡◌, List, IfSome, IsSomeAnd}
use Rattle.class_link.specs.Info.{Info}
use Rattle.jvm_state.specs.Rows.{Row}
use Rattle.jvm_frames.specs.Frames.{NumberedFrame, NumberedFrames}
use Rattle.jvm_world.specs.declared.world.World.{World}
use Rattle.jvm_rows.specs.declared.effect.Effect as code
use Rattle.jvm_rows.specs.declared.effect.Effect.TheVariants as effect
use Rattle.jvm_rows.specs.Effects.{GoesOn, IsNoRow, IsThrown, RowOf}

-- By what the code answers at a frame. Where no row applies frames are as they were, and of the
-- world nothing is said: the class that the row names may have been consulted by then.
abbrev pub WholeTo :
    List Info → Row → code.Effect → NumberedFrame → NumberedFrames → NumberedFrames → World →
    World → Type 0
WholeTo p row effect.NoRow f old new w u = IsNoRow p row f w × (new ≡ old)
WholeTo p row effect.Goes f old new w u =
    IsSomeAnd new.frame (GoesOn p row f w u) × (new.callers ≡ old.callers)
WholeTo p row (effect.Throws x) f old new w u = IsThrown p row f w u x × (new ≡ old)

-- What a whole row comes to, where a frame runs.
abbrev pub RunsWhole :
    List Info → RowOf → code.Effect → NumberedFrames → NumberedFrames → World → World → Type 0
RunsWhole p row e old new w u =
    IfSome old.frame (λ f. WholeTo p (row w.limits f.room) e f old new w u)
