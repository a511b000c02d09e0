-- What the cells of a job say (this project's own).
use Rattle.std.specs.Prelude.{◌≡◌, ◌<◌, ◌≤◌, ◌+◌, ◌*◌, ◌^◌, ℕ, Bool, true, false, List, length, map, All, Option, is_some, Result, Ok, Err}
use Rattle.class_model.specs.declared.memory.Memory.{Memory}
use Rattle.class_link.specs.Info.{Info}
use Rattle.record_rules.specs.declared.record.RunRecord.{RunRecord}
use Rattle.job_rules.specs.Tried.{Tried, cost_of_all, detections, knowns, need_cost, needed_of_all}
use Rattle.suite_jobs.specs.Jobs.{says}
use Rattle.suite_jobs.specs.Laws.{steps_of}
use Rattle.history_file.specs.Rows.{Numbered}
use Rattle.suite_workers.specs.Old.{AreLookUps, IsIn, found_record, history_of}
use Rattle.suite_workers.specs.Jobs.{CanRun, FitsNumbers, cell_runs, job_in}
use Rattle.suite_workers.specs.declared.said.CellsSaid.{CellsSaid}
use Rattle.suite_workers.specs.declared.said.KnownRun.{KnownRun}
use Rattle.suite_workers.specs.declared.said.KnownRun.TheVariants as run
use Rattle.suite_workers.specs.declared.setup.JobSetup.{JobSetup}

abbrev pub known_record : KnownRun → RunRecord
known_record (run.Made made) = made
known_record (run.Found found) = found_record found

abbrev pub is_found : KnownRun → Bool
is_found (run.Made made) = false
is_found (run.Found found) = true

-- What was found is of this history.
abbrev pub IsKnownIn : Option Numbered → KnownRun → Type 0
IsKnownIn history (run.Made made) = Unit {0}
IsKnownIn history (run.Found found) = IsIn history found

-- ---- what is asked

pub record MayRunCells (p : List Info) (x : JobSetup) (workers meter : ℕ) : Type 0 where
  pub can : CanRun p (job_in x)
  pub fits : FitsNumbers (job_in x)
  pub look_ups : AreLookUps p x.tests.now x.limits x.bounds.now x.look_ups.now
  pub some : 0 < workers
  pub few : workers ≤ 64
  pub meter_is : meter < 2 ^ 63

-- ---- what is answered

-- The tests that detect each mutant, the records of the needed runs, and which of these old records
-- have; they are of this history.
pub record IsSaidOf
    (all : Bool) (history : Option Numbered) (ms : List (List (Tried RunRecord))) (said : CellsSaid)
    : Type 0 where
  pub detections_are : said.detections ≡ map (detections says all) ms
  pub records : map known_record said.records ≡ knowns (needed_of_all says all ms)
  pub found : map is_found said.records ≡ map (λ t. is_some t.found) (needed_of_all says all ms)
  pub histories : All (IsKnownIn history) said.records

-- The meter rose by what is needed at least, by what all runs cost at most, and with one worker by
-- just what is needed.
pub record CostsOf
    (all : Bool) (workers : ℕ) (ms : List (List (Tried RunRecord))) (before after : ℕ)
    : Type 0 where
  pub cost : ℕ
  pub meter : after ≡ before + cost
  pub least : need_cost says steps_of all ms ≤ cost
  pub most : cost ≤ cost_of_all steps_of ms
  pub one : workers ≡ 1 → cost ≡ need_cost says steps_of all ms

-- Where memory runs out, it rose by at most what all runs cost for each worker.
pub record CostsAtMost
    (workers : ℕ) (ms : List (List (Tried RunRecord))) (before after : ℕ)
    : Type 0 where
  pub from : before ≤ after
  pub most : after ≤ before + workers * cost_of_all steps_of ms

abbrev pub RunsCells : List Info → JobSetup → ℕ → ℕ → ℕ → Result CellsSaid Memory → Type 0
RunsCells p x workers before after (Ok said) =
    IsSaidOf x.all (history_of x.look_ups.now) (cell_runs p (job_in x)) said
    × CostsOf x.all workers (cell_runs p (job_in x)) before after
RunsCells p x workers before after (Err memory) =
    CostsAtMost workers (cell_runs p (job_in x)) before after
