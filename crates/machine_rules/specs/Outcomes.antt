-- How runs end (this project's own).
use Rattle.std.specs.Prelude.{[], Option, Some, None}
use Rattle.program_rules.specs.Names.{Name}
use Rattle.program_rules.specs.Objects.{Object, ObjectKind, Plain, ArrayOf}
use Rattle.machine_rules.specs.declared.machine.Stop.{Stop}
use Rattle.machine_rules.specs.declared.machine.Stop.TheVariants.{HeapPassed, TestReturned}

-- Why a test failed: its method returned though an exception was to leave it, or an object of this
-- class left a call of the script.
pub data Cause : Type 0 where
  Returned : Cause
  Thrown : Name → Cause

-- How a run ended.
pub data Outcome : Type 0 where
  Passed : Outcome
  Failed : Cause → Outcome
  -- it had not ended after the steps that it was given
  TimedOut : Outcome
  -- an allocation would have passed the heap's limit
  MemoryOut : Outcome

-- The class of what was thrown: no array is, and a number without an object has no class.
abbrev pub thrown_class : Option Object → Name
thrown_class None = []
thrown_class (Some o) = class_of_plain o.kind
  where
    class_of_plain : ObjectKind → Name
    class_of_plain (Plain n) = n
    class_of_plain (ArrayOf k) = []

-- The outcome of a run that is over though its script isn't.
abbrev pub outcome_of_stop : Stop → Outcome
outcome_of_stop HeapPassed = MemoryOut
outcome_of_stop TestReturned = Failed Returned
