-- What steps of one frame alone are to whole runs.
use Rattle.std.specs.Prelude.{◌≡◌, ℕ, ◌+◌, ℤ, Bool, true, List, ◌∷◌, Some, None, slice_get}
use Rattle.program_rules.specs.Names.{Name}
use Rattle.program_rules.specs.Programs.{Look}
use Rattle.program_rules.specs.Instructions as def
use Rattle.machine_rules.specs.declared.machine.Limits.{Limits}
use Rattle.machine_rules.specs.State as rules
use Rattle.machine_rules.specs.Effects.{Current}
use Rattle.machine_rules.specs.Steps.{fetch, reaches}
use Rattle.machine_rules.specs.Runs.{run_from}
use Rattle.jvm_state.specs.declared.op.Op.{Op}
use Rattle.jvm_state.specs.Ops.{Naming, instruction_of}
use Rattle.jvm_frames.specs.Frames.{NumberedFrame, framed}
use Rattle.jvm_frames.specs.Staying.{Stays}

-- A frame stands at a method of a class.
abbrev pub StandsIn : Name → ℕ → rules.Frame → Type 0
StandsIn class method f = (f.class ≡ class) × (f.method ≡ method)

-- These are the instructions of a method of a program, of which a row asks this; in this world the
-- lines of those with a mark were reached, and the run isn't over.
pub record IsHome
    (p : Look) (class : Name) (method : ℕ) (here : Current)
    (named : Naming → ℕ → def.Instruction) (ops : List Op) (longs : List ℤ) (marks : List Bool)
    (w : rules.World)
    : Type 0 where
  pub fetches : (f : rules.Frame) (op : Op) → StandsIn class method f →
      slice_get ops f.at ≡ Some op →
      fetch p f ≡ Some (record { instruction = instruction_of longs named op; here = here })
  pub reached : (f : rules.Frame) → StandsIn class method f → slice_get marks f.at ≡ Some true →
      reaches p f w ≡ w
  pub lives : w.over ≡ None

-- The state of a machine with this frame over others.
abbrev pub state_with : rules.World → Name → NumberedFrame → List rules.Frame → rules.MachineState
state_with w class f fs = record { frames = framed class f ∷ fs; thrown = None; world = w }

-- So many steps of a frame alone are so many steps of a run: the run goes on from the frame behind
-- them, so many steps further on.
abbrev pub StepsOfRuns : Type 0
StepsOfRuns =
    (p : Look) (q : Limits) (class : Name) (here : Current) (named : Naming → ℕ → def.Instruction)
    (ops : List Op) (longs : List ℤ) (marks : List Bool) (w : rules.World)
    (fs : List rules.Frame) (n left i : ℕ) (f g : NumberedFrame) →
    IsHome p class f.method here named ops longs marks w → here.max_stack ≡ f.room →
    Stays ops longs marks n f g →
    run_from p q (n + left) (state_with w class f fs) i
    ≡ run_from p q left (state_with w class g fs) (i + n)
