-- What a worker needs for its cells (this project's own).
use Rattle.std.specs.Prelude.{List}
use Rattle.class_link.specs.Info.{Info}
use Rattle.worker_gate.specs.Hands.{Runs}
use Rattle.suite_workers.specs.Old.{AreLookUps, history_of}
use Rattle.suite_workers.specs.Jobs.{CanRun, FitsNumbers, cell_runs, job_in}
use Rattle.suite_workers.specs.Marks.{Marked, marked}
use Rattle.suite_workers.specs.Standing.{IsStand, base_of}
use Rattle.suite_workers.specs.declared.setup.JobSetup.{JobSetup}
use Rattle.suite_workers.specs.declared.standing.Stand.{Stand}

-- A worker may be made for a job on a program.
pub record StartsFrom (p : List Info) (x : JobSetup) : Type 0 where
  pub can : CanRun p (job_in x)
  pub fits : FitsNumbers (job_in x)
  pub look_ups : AreLookUps p x.tests.now x.limits x.bounds.now x.look_ups.now

-- The runs of a job's cells on a program; what is found stands in the history of its look-ups.
abbrev pub runs_from : List Info → JobSetup → Runs Marked
runs_from p x = marked (history_of x.look_ups.now) (cell_runs p (job_in x))

-- Those of a worker's job.
abbrev pub runs_for : JobSetup → Stand → Runs Marked
runs_for x s = runs_from (base_of s) x

-- It may be asked of them.
pub record CanWork (x : JobSetup) (s : Stand) : Type 0 where
  pub starts : StartsFrom (base_of s) x
  pub stand : IsStand (base_of s) x.look_ups.now.history x.mutants.now s
