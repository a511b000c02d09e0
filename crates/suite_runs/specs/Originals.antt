-- The runs of a job's tests on its program as it is, by number (this project's own).
use Rattle.std.specs.Prelude.{◌≡◌, ℕ, List, length, replicate}
use Rattle.class_link.specs.Info.{Info}
use Rattle.class_table.specs.declared.scripted.Test.{Test}
use Rattle.machine_rules.specs.declared.machine.Limits.{Limits}
use Rattle.record_rules.specs.declared.record.RunRecord.{RunRecord}
use Rattle.record_rules.specs.Records.{Asked}
use Rattle.job_rules.specs.Tried.{Tried, cost_of}
use Rattle.suite_workers.specs.Below.{steps_of}
use Rattle.suite_workers.specs.Originals.{MayRunTests, test_asked, test_tried, tests_tried}
use Rattle.suite_workers.specs.declared.look_ups.LookUps.{LookUps}
use Rattle.suite_workers.specs.declared.setup.OriginalSetup.{OriginalSetup}
use Rattle.suite_runs.specs.declared.job.SuiteJob.{SuiteJob}

-- Each test may take the same steps.
abbrev pub same_steps : SuiteJob → List ℕ
same_steps j = replicate (length j.tests.now) j.steps

module _ (p : List Info) (j : SuiteJob) where
  abbrev pub run_asked : ℕ → Asked
  run_asked k = test_asked p j.tests.now j.limits j.steps k

  -- They may be made.
  abbrev pub MayMakeOriginals : Type 0
  MayMakeOriginals = MayRunTests p j.tests.now j.limits j.steps

  module _ (old : List RunRecord) where
    abbrev pub run_tried : ℕ → Tried RunRecord
    run_tried k = test_tried p j.tests.now j.limits j.steps old k

    abbrev pub all_tried : List (Tried RunRecord)
    all_tried = tests_tried p j.tests.now j.limits j.steps old

    abbrev pub original_cost : ℕ
    original_cost = cost_of steps_of all_tried

-- What the workers share is this.
pub record IsOriginalSetup
    (tests : List Test) (limits : Limits) (steps : ℕ) (l : LookUps) (x : OriginalSetup)
    : Type 0 where
  pub tests_are : x.tests.now ≡ tests
  pub limits_are : x.limits ≡ limits
  pub steps_are : x.steps ≡ steps
  pub look_ups_are : x.look_ups.now ≡ l
