-- What workers begin with and leave, job by job (this project's own).
use Rattle.std.specs.Prelude.{◌≡◌, ℕ, ◌<◌, List, [], None, length, slice_index_or}
use Rattle.atomic_table.specs.Seated.{TableId}
use Rattle.mutant_table.specs.Seats.{IsSeatAt, entries_of}
use Rattle.mutant_table.specs.declared.rule.Sizes.{Sizes}
use Rattle.worker_gate.specs.Ends.{IsPlanOf, Begun, WorkedFrom}
use Rattle.worker_gate.specs.Hands.{Reading, Runs}
use Rattle.worker_gate.specs.declared.ends.Job.{Job}
use Rattle.worker_gate.specs.declared.ends.Plan.{Plan}
use Rattle.worker_gate.specs.declared.ends.WorkEnd.{WorkEnd}

abbrev pub job_of : {C M F : Type 0} → WorkEnd C M F → Job C
job_of e = e.job

-- a job that has done nothing
pub record IsReady {C : Type 0} (table : TableId) (z : Sizes) (j : Job C) : Type 0 where
  pub seat : IsSeatAt table z j.seat
  pub idle : entries_of j.seat ≡ []
  pub part : j.part ≡ 0

abbrev pub IsIdle : {C M F : Type 0} → WorkEnd C M F → Type 0
IsIdle e = (e.cells.items ≡ []) × (e.fault ≡ None)

-- the plan is of the job's runs
abbrev pub IsPlanned :
    {C M F Rec S : Type 0} → Reading M F Rec S → (C → Runs Rec) → Sizes → Plan → Job C → Type 0
IsPlanned r runs z plan j = IsPlanOf r z (runs j.hands) plan

-- a worker that may begin with a plan
pub record MayBegin
    {C M F Rec S : Type 0} (r : Reading M F Rec S) (runs : C → Runs Rec) (table : TableId) (z : Sizes)
    (cells : Plan) (e : WorkEnd C M F)
    : Type 0 where
  pub begun : Begun table z e
  pub plan : IsPlanOf r z (runs e.job.hands) cells

-- what all workers leave, each of its own job
pub record AllWorked
    {C M F Rec S : Type 0} (r : Reading M F Rec S) (runs : C → Runs Rec) (table : TableId) (z : Sizes)
    (plan : Plan) (jobs : List (Job C)) (ends : List (WorkEnd C M F))
    : Type 0 where
  pub each : (k : ℕ) (j : Job C) (e : WorkEnd C M F) → k < length jobs →
      WorkedFrom r table z plan (runs (slice_index_or jobs k j).hands) (slice_index_or jobs k j)
      (slice_index_or ends k e)
