-- What a worker of original runs is (this project's own).
use Rattle.run_records.specs.Below.{AreTablesOf}
use Rattle.worker_gate.specs.Hands.{Runs}
use Rattle.suite_workers.specs.Marks.{Marked}
use Rattle.suite_workers.specs.Originals.{StartsOriginals, originals_from}
use Rattle.suite_workers.specs.declared.original_worker.OriginalWorker.TheInside.{Inside}

-- The runs of its job.
abbrev pub original_runs : Inside → Runs Marked
original_runs w = originals_from w.program w.setup.now

-- It may be asked of them.
abbrev pub IsOriginalWorker : Inside → Type 0
IsOriginalWorker w = StartsOriginals w.program w.setup.now × AreTablesOf w.program w.tables
