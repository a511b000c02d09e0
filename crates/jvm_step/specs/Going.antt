-- What a machine that hasn't ended does next.
use Rattle.std.specs.Prelude.{ℕ, List, Option}
use Rattle.machine_rules.specs.declared.machine.Limits.{Limits}
use Rattle.machine_rules.specs.State as def
use Rattle.machine_rules.specs.Effects.{Effect}
use Rattle.machine_rules.specs.Steps.{goes}
use Rattle.class_link.specs.Info.{Info}
use Rattle.class_table.specs.Table.{look}
use Rattle.jvm_frames.specs.Frames.{NumberedFrames}
use Rattle.jvm_world.specs.declared.world.World.{World}
use Rattle.jvm_lines.specs.Below.{Turn}
use Rattle.jvm_lines.specs.Below.{frames_of}
use Rattle.jvm_lines.specs.Below.{TurnedTo}

-- In each world of the definitions, over these frames.
abbrev pub going : List Info → Limits → Option ℕ → NumberedFrames → def.World → Effect
going p q thrown s v = goes (look p) q v thrown (frames_of p s)

-- It comes to this turn.
abbrev pub GoesTo :
    List Info → Option ℕ → Turn → NumberedFrames → NumberedFrames → World → World → Type 0
GoesTo p thrown t old new w u = TurnedTo p (going p w.limits thrown old) t new w u
