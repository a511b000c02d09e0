-- How runs end: as the machine's definitions say it, and as a record does (this project's own).
use Rattle.std.specs.Prelude.{Option, Some, None}
use Rattle.class_model.specs.declared.outcome.Cause.{Cause}
use Rattle.class_model.specs.declared.outcome.Cause.TheVariants as cause
use Rattle.class_model.specs.declared.outcome.Outcome.{Outcome}
use Rattle.class_model.specs.declared.outcome.Outcome.TheVariants as outcome
use Rattle.machine_rules.specs.Outcomes as machine
use Rattle.machine_rules.specs.Runs.{Ending, With, StuckAt, Ran}

abbrev pub cause_in : machine.Cause → Cause
cause_in machine.Returned = cause.Returned
cause_in (machine.Thrown n) = cause.Thrown n

abbrev pub outcome_in : machine.Outcome → Outcome
outcome_in machine.Passed = outcome.Passed
outcome_in (machine.Failed c) = outcome.Failed (cause_in c)
outcome_in machine.TimedOut = outcome.TimedOut
outcome_in machine.MemoryOut = outcome.MemoryOut

-- A run that is stuck has none.
abbrev pub outcome_at : Ending → Option Outcome
outcome_at (With o) = Some (outcome_in o)
outcome_at (StuckAt place) = None

abbrev pub outcome_of : Ran → Option Outcome
outcome_of ran = outcome_at ran.ending
