-- The instructions that call a method, by the index at which that is named.
use Rattle.std.specs.Prelude.{◌≡◌, ℕ, Bool, true, false, List, IfSome, IsSomeAnd}
use Rattle.program_rules.specs.Instructions as def
use Rattle.class_link.specs.Info.{Info}
use Rattle.class_link.specs.Opcodes.{on_method}
use Rattle.jvm_frames.specs.Frames.{NumberedFrame, NumberedFrames}
use Rattle.jvm_world.specs.declared.world.World.{World}
use Rattle.jvm_rows.specs.Effects.{RowOf}
use Rattle.jvm_unwind.specs.declared.turn.Turn.{Turn}
use Rattle.jvm_invokes.specs.declared.invoked.Invoked.{Invoked}
use Rattle.jvm_invokes.specs.declared.invoked.Invoked.TheVariants as invoked
use Rattle.jvm_invokes.specs.Invoked.{Invokes}
use Rattle.jvm_act.specs.declared.groups.CallUse.{CallUse}
use Rattle.jvm_act.specs.Standing.{HasNext}
use Rattle.jvm_act.specs.Acts.{symbol_at, call_named}

-- The method that a class names at an index is called.
abbrev pub call_at : List Info → ℕ → CallUse → ℕ → def.Instruction
call_at p class how index = on_method (call_named how) (symbol_at p class index)

-- A frame of this class stands at an instruction behind which there is a number for another one.
pub record StandsIn (number : ℕ) (f : NumberedFrame) : Type 0 where
  pub class : f.class ≡ number
  pub next : HasNext f

-- Whether a frame runs with such a number.
abbrev pub TellsNext : NumberedFrames → Bool → Type 0
TellsNext s true = IsSomeAnd s.frame HasNext
TellsNext s false = IsSomeAnd s.frame HasNext → ⊥

-- Something is left of a call.
abbrev pub IsRest : Invoked → Type 0
IsRest (invoked.Turned t) = ⊥
IsRest (invoked.Readies s) = Unit {0}
IsRest (invoked.Native s args) = Unit {0}
IsRest (invoked.Copies args) = Unit {0}

-- Each row that came to this, where the frame that ran had a next instruction, comes to this turn.
abbrev pub Finishes :
    List Info → def.MethodRef → Invoked → Turn → NumberedFrames → NumberedFrames → World →
    World → Type 0
Finishes p r left t old new w u =
    (row : RowOf) (first : NumberedFrames) (before : World) → IfSome first.frame HasNext →
    w.limits ≡ before.limits → Invokes p r row left first old before w →
    Invokes p r row (invoked.Turned t) first new before u
