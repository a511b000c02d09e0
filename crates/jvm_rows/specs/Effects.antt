-- What a row of the machine comes to, of frames and a world by number.
use Rattle.std.specs.Prelude.{◌≡◌, ℕ, Bool, true, false, List, ◌∷◌, None, Some, IfSome, IsSomeAnd}
use Rattle.program_rules.specs.Names.{Name}
use Rattle.machine_rules.specs.declared.machine.Limits.{Limits}
use Rattle.machine_rules.specs.State as def
use Rattle.machine_rules.specs.Effects.{NoRow}
use Rattle.class_link.specs.Info.{Info}
use Rattle.jvm_state.specs.Rows.{Row}
use Rattle.jvm_frames.specs.Frames.{NumberedFrame, NumberedFrames, framed}
use Rattle.jvm_world.specs.declared.world.World.{World}
use Rattle.jvm_world.specs.View.{Means, Comes}
use Rattle.jvm_rows.specs.declared.effect.Effect as code
use Rattle.jvm_rows.specs.declared.effect.Effect.TheVariants as effect

-- What is said of a row at a frame, over any callers, in each world that is meant.
abbrev pub AtEach :
    List Info → NumberedFrame → World → (Name → def.World → List def.Frame → Type 0) → Type 0
AtEach p f w says =
    (class : Name) (v : def.World) (fs : List def.Frame) → Means p w v → says class v fs

-- No row applies.
abbrev pub IsNoRow : List Info → Row → NumberedFrame → World → Type 0
IsNoRow p row f w = AtEach p f w (λ class v fs. row v (framed class f) fs ≡ NoRow)

-- A row goes on from one frame to another one of the same method.
pub record GoesOn (p : List Info) (row : Row) (f : NumberedFrame) (w u : World) (g : NumberedFrame)
    : Type 0 where
  pub goes : AtEach p f w (λ class v fs.
      Comes p u (framed class g ∷ fs) None (row v (framed class f) fs))
  pub class : g.class ≡ f.class
  pub method : g.method ≡ f.method
  pub room : g.room ≡ f.room

-- An object is thrown, and the frame is as it was.
abbrev pub IsThrown : List Info → Row → NumberedFrame → World → World → ℕ → Type 0
IsThrown p row f w u x =
    AtEach p f w (λ class v fs.
    Comes p u (framed class f ∷ fs) (Some x) (row v (framed class f) fs))

-- Whether a row applied.
abbrev pub is_row : code.Effect → Bool
is_row effect.NoRow = false
is_row effect.Goes = true
is_row (effect.Throws x) = true

-- What a row comes to at the running frame of these frames, in this world. Where no row applies
-- both are as they were.
abbrev pub ComesTo :
    List Info → Row → code.Effect → NumberedFrame → NumberedFrames → NumberedFrames → World →
    World → Type 0
ComesTo p row effect.NoRow f old new w u = IsNoRow p row f w × (new ≡ old) × (u ≡ w)
ComesTo p row effect.Goes f old new w u =
    IsSomeAnd new.frame (GoesOn p row f w u) × (new.callers ≡ old.callers)
ComesTo p row (effect.Throws x) f old new w u = IsThrown p row f w u x × (new ≡ old)

-- A row by the limits of the run and the words that the frame's stack may have.
abbrev pub RowOf : Type 0
RowOf = Limits → ℕ → Row

-- What a row comes to, where a frame runs.
abbrev pub Runs :
    List Info → RowOf → code.Effect → NumberedFrames → NumberedFrames → World → World → Type 0
Runs p row e old new w u =
    IfSome old.frame (λ f. ComesTo p (row w.limits f.room) e f old new w u)
