-- What all workers leave, as settling asks it (this project's own).
use Rattle.std.specs.Prelude.{◌≡◌, ℕ, ◌*◌, ◌<◌, ◌≤◌, List, Bool, length, map, slice_index_or}
use Rattle.atomic_table.specs.Seated.{TableId}
use Rattle.job_rules.specs.Tried.{cost_of_all}
use Rattle.mutant_table.specs.Seats.{AreSeatsAt, worker_of}
use Rattle.mutant_table.specs.declared.rule.Sizes.{Sizes}
use Rattle.worker_gate.specs.Hands.{Reading, Runs}
use Rattle.worker_gate.specs.Settled.{AreLeft, parts_of, seat_of}
use Rattle.worker_gate.specs.Workers.{AllWorked}
use Rattle.worker_gate.specs.declared.ends.Job.{Job}
use Rattle.worker_gate.specs.declared.ends.Plan.{Plan}
use Rattle.worker_gate.specs.declared.ends.WorkEnd.{WorkEnd}

-- a job for each seat of a table, in the order of the seats, all of the same runs
pub record AreJobsOf
    {C Rec : Type 0} (runs : C → Runs Rec) (z : Sizes) (ms : Runs Rec) (jobs : List (Job C))
    : Type 0 where
  pub count : length jobs ≡ z.workers
  pub each : (k : ℕ) (j : Job C) → k < length jobs →
      (runs (slice_index_or jobs k j).hands ≡ ms)
      × (worker_of (slice_index_or jobs k j).seat ≡ k)

-- what such jobs leave is what all workers of the table left
abbrev pub JobsLeave : (C M F Rec S : Type 0) → Type 0
JobsLeave C M F Rec S =
    (r : Reading M F Rec S) (runs : C → Runs Rec) (table : TableId) (z : Sizes) (plan : Plan)
    (ms : Runs Rec) (jobs : List (Job C)) (ends : List (WorkEnd C M F)) →
    AreJobsOf runs z ms jobs → length ends ≡ length jobs →
    AllWorked r runs table z plan jobs ends → AreLeft r table z plan.all plan.order ms ends

-- their seats are those of the table, and each part is at most what all runs cost
pub record AreSettleable
    {C M F Rec S : Type 0} (r : Reading M F Rec S) (table : TableId) (z : Sizes) (ms : Runs Rec)
    (ends : List (WorkEnd C M F))
    : Type 0 where
  pub seated : AreSeatsAt table z (map seat_of ends)
  pub parts : parts_of ends ≤ z.workers * cost_of_all r.steps ms

abbrev pub LeftMaySettle : (C M F Rec S : Type 0) → Type 0
LeftMaySettle C M F Rec S =
    (r : Reading M F Rec S) (table : TableId) (z : Sizes) (all : Bool) (order : List ℕ) (ms : Runs Rec)
    (ends : List (WorkEnd C M F)) → AreLeft r table z all order ms ends →
    AreSettleable r table z ms ends
