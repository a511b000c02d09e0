-- What workers leave, as the ends and the lists of a job (this project's own).
use Rattle.std.specs.Prelude.{◌≡◌, ◌≢◌, ℕ, ◌+◌, ◌<◌, ◌≤◌, ◌^◌, List, [], ◌∷◌, ◌++◌, Bool, true, false, if◌then◌else◌, nat_lt, Option, Some, None, is_some, Result, Ok, Err, map, length, All, slice_index}
use Rattle.std.specs.Option.{unwrap_or}
use Rattle.claim_core.specs.declared.events.ClaimEntry.TheVariants.{Looked}
use Rattle.claim_core.specs.Claims.{no_place}
use Rattle.claim_core.specs.Ending.{Cell}
use Rattle.job_rules.specs.Tried.{Tried, cost_of_all}
use Rattle.job_rules.specs.Ended.{Ended, ran, reused, skipped, say_end, cost_of_end, cost_of_ends}
use Rattle.job_rules.specs.Worked.{EndsOn, detection, cells_of, IsOrderOf, Work, IsWorkOf, DidCells, numbered, all_did}
use Rattle.atomic_table.specs.Seated.{TableId}
use Rattle.class_model.specs.declared.memory.Memory.{Memory}
use Rattle.mt_edge.specs.declared.outside.EdgeFault.TheVariants.{Memory as Wanting}
use Rattle.mutant_table.specs.Seats.{IsSeatAt, entries_of, worker_of}
use Rattle.mutant_table.specs.declared.rule.Sizes.{Sizes}
use Rattle.mutant_table.specs.declared.seat.ClaimSeat.{ClaimSeat}
use Rattle.worker_gate.specs.Hands.{Reading, Runs, IsRunOf}
use Rattle.worker_gate.specs.declared.ends.CellEnd.{CellEnd}
use Rattle.worker_gate.specs.declared.ends.CellEnd.TheVariants as end
use Rattle.worker_gate.specs.declared.ends.DrawnCell.{DrawnCell}
use Rattle.worker_gate.specs.declared.ends.WorkEnd.{WorkEnd}
use Rattle.worker_gate.specs.declared.ends.Job.{Job}
use Rattle.worker_gate.specs.declared.ends.Plan.{Plan}

module _ {M F Rec S : Type 0} (r : Reading M F Rec S) where
  abbrev pub ended_of : CellEnd M F → Ended Rec
  ended_of (end.Ran made) = ran (r.made_of made)
  ended_of (end.Reused found) = reused (r.found_of found)
  ended_of (end.Skipped v) = skipped v

  -- whether an end detects the mutant
  abbrev pub detects_so : CellEnd M F → Bool
  detects_so e = is_some (say_end r.say (ended_of e))

  abbrev pub numbered_of : ℕ × CellEnd M F → ℕ × Ended Rec
  numbered_of p = (p.0, ended_of p.1)

-- the cells that a worker has done, with their ends
abbrev pub ends_in : {C M F Rec S : Type 0} → Reading M F Rec S → WorkEnd C M F → List (ℕ × Ended Rec)
ends_in r e = map (numbered_of r) e.cells.items

abbrev pub ends_alone : {C M F Rec S : Type 0} → Reading M F Rec S → WorkEnd C M F → List (Ended Rec)
ends_alone r e = map (λ p. p.1) (ends_in r e)

-- the place by which a cell is skipped
abbrev pub if_below : ℕ → Option ℕ → Option ℕ
if_below test None = None
if_below test (Some place) = if nat_lt place test then Some place else None

abbrev pub skip_of : Bool → Option ℕ → ℕ → Option ℕ
skip_of all seen test = if all then None else if_below test seen

-- the end of a cell that isn't skipped
abbrev pub Done : {Rec : Type 0} → Tried Rec → Ended Rec → Type 0
Done t (ran made) = (t.found ≡ None) × (made ≡ t.made)
Done t (reused found) = t.found ≡ Some found
Done t (skipped v) = ⊥

pub record IsDoneOf {Rec : Type 0} (ms : Runs Rec) (mutant test : ℕ) (e : Ended Rec) : Type 0 where
  pub done : (t : Tried Rec) → IsRunOf ms mutant test t → Done t e

-- a seat of a table, before and after: it is of the same worker
abbrev pub KeepsSeat : TableId → Sizes → ClaimSeat → ClaimSeat → Type 0
KeepsSeat table z old new = IsSeatAt table z new × (worker_of new ≡ worker_of old)

-- the place that a look saw, as the lists have it
abbrev pub seen_place : Option ℕ → ℕ
seen_place seen = unwrap_or seen no_place

-- the end of a cell, by what the look saw
pub record EndsSo
    {Rec : Type 0} (all : Bool) (ms : Runs Rec) (mutant test : ℕ) (seen : Option ℕ) (e : Ended Rec)
    : Type 0 where
  pub ends : (t : Tried Rec) → IsRunOf ms mutant test t → EndsOn all test (seen_place seen) t e

-- a worker's seat, its number and the cells that it has done stay, and memory isn't wanted
pub record StaysBeside {C M F : Type 0} (old new : WorkEnd C M F) : Type 0 where
  pub seat : new.job.seat ≡ old.job.seat
  pub worker : new.job.worker ≡ old.job.worker
  pub cells : new.cells ≡ old.cells
  pub fault : old.fault ≢ Some Wanting → new.fault ≢ Some Wanting

abbrev pub cell_of : ℕ → ℕ → Cell
cell_of mutant test = record { mutant = mutant; place = test }

abbrev pub NotesEnd :
    {M F Rec S : Type 0} → Reading M F Rec S → ℕ → ℕ → CellEnd M F → ClaimSeat → ClaimSeat → Type 0
NotesEnd r mutant test e old new =
    entries_of new ≡ entries_of old ++ detection r.say (cell_of mutant test) (ended_of r e)

-- a worker did one cell more
pub record DidCell
    {C M F Rec S : Type 0} (r : Reading M F Rec S) (all : Bool) (ms : Runs Rec) (number mutant test : ℕ)
    (old new : WorkEnd C M F)
    : Type 0 where
  pub seen : ℕ
  pub end : Ended Rec
  pub cells : ends_in r new ≡ ends_in r old ++ (number, end) ∷ []
  pub ended : (t : Tried Rec) → IsRunOf ms mutant test t → EndsOn all test seen t end
  pub noted : entries_of new.job.seat
      ≡ entries_of old.job.seat ++ Looked mutant seen ∷ detection r.say (cell_of mutant test) end
  pub counted : new.job.part ≡ old.job.part + cost_of_end r.steps end

-- ---- a plan

abbrev pub mutant_at : Cell → ℕ
mutant_at cell = cell.mutant

abbrev pub test_at : Cell → ℕ
test_at cell = cell.place

-- The plan has the cells of these runs, and the table is for it.
pub record IsPlanOf
    {M F Rec S : Type 0} (r : Reading M F Rec S) (z : Sizes) (ms : Runs Rec) (plan : Plan)
    : Type 0 where
  pub cells : z.cells ≡ length (cells_of ms)
  pub mutants : plan.mutants ≡ map mutant_at (cells_of ms)
  pub tests : plan.tests ≡ map test_at (cells_of ms)
  pub order : IsOrderOf (cells_of ms) plan.order
  pub few : length ms ≡ z.mutants
  pub places : All (λ cell. cell.place < no_place) (cells_of ms)
  pub room : cost_of_all r.steps ms < 2 ^ 63

-- the cell for which a drawn number stands
abbrev pub number_drawn : Plan → ℕ → ℕ
number_drawn plan drawn = slice_index plan.order drawn

abbrev pub cell_drawn : Plan → ℕ → DrawnCell
cell_drawn plan drawn = record {
  number = number_drawn plan drawn;
  mutant = slice_index plan.mutants (number_drawn plan drawn);
  test = slice_index plan.tests (number_drawn plan drawn);
}

-- the number stands for a cell
pub record StandsFor (plan : Plan) (drawn : ℕ) : Type 0 where
  pub order : drawn < length plan.order
  pub mutants : number_drawn plan drawn < length plan.mutants
  pub tests : number_drawn plan drawn < length plan.tests

-- ---- a worker

-- a worker that has done nothing
pub record Begun {C M F : Type 0} (table : TableId) (z : Sizes) (e : WorkEnd C M F) : Type 0 where
  pub seat : IsSeatAt table z e.job.seat
  pub idle : entries_of e.job.seat ≡ []
  pub part : e.job.part ≡ 0
  pub none : e.cells.items ≡ []
  pub fault : e.fault ≡ None

-- a worker in between
pub record Working
    {C M F Rec S : Type 0} (r : Reading M F Rec S) (table : TableId) (z : Sizes) (plan : Plan) (ms : Runs Rec)
    (e : WorkEnd C M F)
    : Type 0 where
  pub seat : IsSeatAt table z e.job.seat
  pub works : List (Work Rec)
  pub ends : ends_in r e ≡ map numbered works
  pub each : All (IsWorkOf plan.all ms plan.order) works
  pub noted : entries_of e.job.seat ≡ all_did r.say works
  pub counted : e.job.part ≡ cost_of_ends r.steps (ends_alone r e)
  pub most : e.job.part ≤ cost_of_all r.steps ms
  pub fault : e.fault ≢ Some Wanting

-- What a worker leaves. Its part never counts more than all runs cost. Where memory wasn't wanted,
-- it did the cells that its list claims, and counted just those that it ran.
pub record Left
    {C M F Rec S : Type 0} (r : Reading M F Rec S) (table : TableId) (z : Sizes) (all : Bool)
    (order : List ℕ) (ms : Runs Rec) (e : WorkEnd C M F)
    : Type 0 where
  pub seat : IsSeatAt table z e.job.seat
  pub most : e.job.part ≤ cost_of_all r.steps ms
  pub did : e.fault ≢ Some Wanting →
      DidCells r.say all ms order z.cells (entries_of e.job.seat) (ends_in r e)
      × (e.job.part ≡ cost_of_ends r.steps (ends_alone r e))

-- a worker for which memory ran out, which isn't noted yet
pub record Wants
    {C M F Rec S : Type 0} (r : Reading M F Rec S) (table : TableId) (z : Sizes) (ms : Runs Rec)
    (e : WorkEnd C M F)
    : Type 0 where
  pub seat : IsSeatAt table z e.job.seat
  pub most : e.job.part ≤ cost_of_all r.steps ms

-- a turn of a worker: it did one cell more, or found none, or memory ran out
abbrev pub Turned :
    {C M F Rec S : Type 0} → Reading M F Rec S → TableId → Sizes → Plan → Runs Rec → WorkEnd C M F →
    Result Bool Memory → Type 0
Turned r table z plan ms e (Ok true) = Working r table z plan ms e
Turned r table z plan ms e (Ok false) = Left r table z plan.all plan.order ms e
Turned r table z plan ms e (Err memory) = Wants r table z ms e

-- the worker is the same one
pub record IsSameWorker {C M F : Type 0} (old new : WorkEnd C M F) : Type 0 where
  pub place : worker_of new.job.seat ≡ worker_of old.job.seat
  pub worker : new.job.worker ≡ old.job.worker

-- What a worker promises of what it leaves, by its job.
pub record WorkedFrom
    {C M F Rec S : Type 0} (r : Reading M F Rec S) (table : TableId) (z : Sizes) (plan : Plan) (ms : Runs Rec)
    (job : Job C) (e : WorkEnd C M F)
    : Type 0 where
  pub place : worker_of e.job.seat ≡ worker_of job.seat
  pub worker : e.job.worker ≡ job.worker
  pub left : Left r table z plan.all plan.order ms e

abbrev pub Worked :
    {C M F Rec S : Type 0} → Reading M F Rec S → TableId → Sizes → Plan → Runs Rec → WorkEnd C M F →
    WorkEnd C M F → Type 0
Worked r table z plan ms old new = WorkedFrom r table z plan ms old.job new
