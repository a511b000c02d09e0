-- How a run came to its end, as the definitions say it and as the code does.
use Rattle.std.specs.Prelude.{◌≡◌, ℕ, List, Option}
use Rattle.class_model.specs.declared.outcome.Outcome.{Outcome}
use Rattle.program_rules.specs.Names.{Name}
use Rattle.program_rules.specs.Objects.{object_at}
use Rattle.machine_rules.specs.Outcomes.{thrown_class}
use Rattle.machine_rules.specs.Runs as runs
use Rattle.machine_rules.specs.State as def
use Rattle.record_rules.specs.Outcomes.{outcome_in}
use Rattle.class_link.specs.Info.{Info}
use Rattle.jvm_world.specs.declared.world.World.{World}
use Rattle.jvm_world.specs.View.{Means}
use Rattle.jvm_run.specs.declared.ending.End.{End}
use Rattle.jvm_run.specs.declared.ending.End.TheVariants as end
use Rattle.jvm_run.specs.declared.ending.Ending.{Ending}
use Rattle.jvm_run.specs.declared.ending.Ending.TheVariants as ending
use Rattle.jvm_step.specs.declared.machine.Machine.{Machine}
use Rattle.jvm_step.specs.declared.machine.StateEnd.{StateEnd}
use Rattle.jvm_step.specs.Machines.{StandsFor, run_outcome}

-- ---- what the definitions say, as the code does

abbrev pub ending_in : runs.Ending → Ending
ending_in (runs.With o) = ending.With (outcome_in o)
ending_in (runs.StuckAt place) = ending.Stuck place.class place.method place.at

-- The same, but for the place where the run is stuck.
abbrev pub end_in : runs.Ending → End
end_in (runs.With o) = end.With (outcome_in o)
end_in (runs.StuckAt place) = end.Stuck

-- ---- the end of a run, by its machine

-- It is the class of the object of a number, in each world that is meant.
abbrev pub TellsThrown : List Info → World → ℕ → Name → Type 0
TellsThrown p w x n = (v : def.World) → Means p w v → n ≡ thrown_class (object_at v.heap x)

-- It is the outcome of a run that comes to this end, of each state that the machine stands for.
abbrev pub IsOutcomeBy : List Info → Machine → Option StateEnd → Outcome → Type 0
IsOutcomeBy p m e o =
    (s : def.MachineState) → StandsFor p m s → o ≡ outcome_in (run_outcome s.world.heap e)
