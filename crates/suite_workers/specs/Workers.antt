-- What a worker is (this project's own).
use Rattle.worker_gate.specs.Hands.{Runs}
use Rattle.suite_workers.specs.Marks.{Marked}
use Rattle.suite_workers.specs.Working.{CanWork, runs_for}
use Rattle.suite_workers.specs.declared.worker.Worker.TheInside.{Inside}

-- The runs of its job.
abbrev pub worker_runs : Inside → Runs Marked
worker_runs w = runs_for w.setup.now w.stand

-- It may be asked of them.
abbrev pub IsWorker : Inside → Type 0
IsWorker w = CanWork w.setup.now w.stand
