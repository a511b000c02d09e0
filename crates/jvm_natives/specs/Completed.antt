-- What a row that calls a method comes to, once what was left of it is done.
use Rattle.std.specs.Prelude.{◌≡◌, ◌⊎◌, List, Some, IfSome, IsSomeAnd}
use Rattle.program_rules.specs.Instructions.{MethodRef}
use Rattle.program_rules.specs.Resolution.{MethodAt}
use Rattle.class_link.specs.Info.{Info}
use Rattle.jvm_frames.specs.Frames.{NumberedFrames}
use Rattle.jvm_world.specs.declared.world.World.{World}
use Rattle.jvm_rows.specs.Effects.{RowOf}
use Rattle.jvm_unwind.specs.declared.turn.Turn.{Turn}
use Rattle.jvm_unwind.specs.Unwinding.{IsOf}
use Rattle.jvm_initialization.specs.Begins.{HasBegun}
use Rattle.jvm_link.specs.declared.site.Site.{Site}
use Rattle.jvm_link.specs.Sites.{IsMethod}
use Rattle.jvm_invokes.specs.declared.invoked.Invoked.{Invoked}
use Rattle.jvm_invokes.specs.declared.invoked.Invoked.TheVariants.{Turned}
use Rattle.jvm_invokes.specs.Invoked.{Invokes, HasEntered}

-- Each row of which this was left, from whatever frames and world, comes to this turn.
abbrev pub Completes :
    List Info → MethodRef → Invoked → Turn → NumberedFrames → NumberedFrames → World → World →
    Type 0
Completes p r left t old new w u =
    (row : RowOf) (first : NumberedFrames) (before : World) → w.limits ≡ before.limits →
    Invokes p r row left first old before w → Invokes p r row (Turned t) first new before u

-- ---- frames

-- The frame that runs is one of the same method still, with as much room.
pub record HasGoneOn (old new : NumberedFrames) : Type 0 where
  pub on : IfSome old.frame (λ f.
      IsSomeAnd new.frame (IsOf f) × (new.callers ≡ old.callers))

-- What becomes of the frames: a method's frame, or that of an initializer, may stand on them.
abbrev pub GoesOnOrEnters : List Info → NumberedFrames → NumberedFrames → Type 0
GoesOnOrEnters p old new = HasGoneOn old new ⊎ HasEntered p old new ⊎ HasBegun p old new

-- No method of the program stands at a place.
abbrev pub NoMethodAt : List Info → Site → Type 0
NoMethodAt p s = (m : MethodAt) → IsMethod p (Some m) s → ⊥
