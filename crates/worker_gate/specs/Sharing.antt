-- Cells that are shared among hands, one for each worker (this project's own).
use Rattle.std.specs.Prelude.{◌≡◌, ℕ, ◌+◌, ◌*◌, ◌<◌, ◌≤◌, ◌^◌, List, [], ◌∷◌, Bool, Option, Some, None, Result, Ok, Err, All, length, map, replicate, Vec, vec_capacity}
use Rattle.std.specs.declared.alloc.Global.{Global}
use Rattle.claim_core.specs.Claims.{no_place}
use Rattle.class_model.specs.declared.memory.Memory.{Memory}
use Rattle.job_rules.specs.Tried.{Ascend, cost_of_all}
use Rattle.job_rules.specs.Ended.{AreAllEnds}
use Rattle.job_rules.specs.Worked.{cells_of, parted}
use Rattle.mutant_table.specs.declared.seat.ClaimSeat.{ClaimSeat}
use Rattle.worker_gate.specs.Ends.{ended_of, mutant_at, test_at}
use Rattle.worker_gate.specs.Exact.{IsExact}
use Rattle.worker_gate.specs.Hands.{Reading, Runs}
use Rattle.worker_gate.specs.Rounds.{AreRounds}
use Rattle.worker_gate.specs.declared.ends.CellEnd.{CellEnd}
use Rattle.worker_gate.specs.declared.ends.JobCells.{JobCells}
use Rattle.worker_gate.specs.declared.ends.Job.{Job}
use Rattle.worker_gate.specs.declared.ends.Plan.{Plan}
use Rattle.worker_gate.specs.declared.sharing.Room.{Room}

-- ---- what is asked

-- the cells of these runs
pub record AreCellsOf
    {M F Rec S : Type 0} (r : Reading M F Rec S) (ms : Runs Rec) (cells : JobCells)
    : Type 0 where
  pub mutants : cells.mutants ≡ map mutant_at (cells_of ms)
  pub tests : cells.tests ≡ map test_at (cells_of ms)
  pub count : cells.count ≡ length ms
  pub few : length ms < 2 ^ 32
  pub fit : length (cells_of ms) < 2 ^ 48
  pub ascend : All Ascend ms
  pub places : All (λ cell. cell.place < no_place) (cells_of ms)
  pub room : cost_of_all r.steps ms < 2 ^ 63

-- all hands are of these runs
abbrev pub AreHandsOf : {C Rec : Type 0} → (C → Runs Rec) → Runs Rec → List C → Type 0
AreHandsOf runs ms hands = All (λ h. runs h ≡ ms) hands

-- Some hands, all of the runs of these cells; and a meter that has room for what each may count.
pub record MayShare
    {C M F Rec S : Type 0} (r : Reading M F Rec S) (runs : C → Runs Rec) (cells : JobCells) (hands : List C)
    (meter : ℕ)
    : Type 0 where
  pub some : 0 < length hands
  pub few : length hands < 2 ^ 16
  pub job : Runs Rec
  pub each : AreHandsOf runs job hands
  pub of : AreCellsOf r job cells
  pub room : meter + length hands * cost_of_all r.steps job < 2 ^ 64

-- ---- what is answered

-- How the cells of these runs ended, in their order, by so many workers, who counted so many steps
-- together: each as its run asks, and all of them exact.
pub record AreEndsOf
    {M F Rec S : Type 0} (r : Reading M F Rec S) (all : Bool) (workers : ℕ) (ms : Runs Rec)
    (before after : ℕ) (ends : List (CellEnd M F))
    : Type 0 where
  pub count : length ends ≡ length (cells_of ms)
  pub each : AreAllEnds r.say all ms (parted ms (map (ended_of r) ends))
  pub cost : ℕ
  pub meter : after ≡ before + cost
  pub exact : IsExact r all workers ms cost (map (ended_of r) ends)

-- where memory ran out: how many steps workers may have counted
pub record CountAtMost (most before after : ℕ) : Type 0 where
  pub from : before ≤ after
  pub within : after ≤ before + most

abbrev pub SharedSo :
    {M F Rec S : Type 0} → Reading M F Rec S → Bool → ℕ → Runs Rec → ℕ → ℕ →
    Result (Vec (CellEnd M F) Global) Memory → Type 0
SharedSo r all workers ms before after (Ok ends) =
    AreEndsOf r all workers ms before after ends.items
SharedSo r all workers ms before after (Err memory) =
    CountAtMost (workers * cost_of_all r.steps ms) before after

-- the same of the runs of all hands
pub record Shared
    {C M F Rec S : Type 0} (r : Reading M F Rec S) (runs : C → Runs Rec) (cells : JobCells) (hands : List C)
    (before after : ℕ) (result : Result (Vec (CellEnd M F) Global) Memory)
    : Type 0 where
  pub shared : (ms : Runs Rec) → AreHandsOf runs ms hands →
      SharedSo r cells.all (length hands) ms before after result

-- ---- in between

-- a plan that draws these cells round by round
pub record IsPlanFor (cells : JobCells) (plan : Plan) : Type 0 where
  pub mutants : plan.mutants ≡ cells.mutants
  pub tests : plan.tests ≡ cells.tests
  pub all : plan.all ≡ cells.all
  pub rounds : AreRounds cells.mutants plan.order

abbrev pub seat_in : {C : Type 0} → Job C → ClaimSeat
seat_in j = j.seat

abbrev pub hands_in : {C : Type 0} → Job C → C
hands_in j = j.hands

-- a job whose part has counted nothing
abbrev pub HasCountedNothing : {C : Type 0} → Job C → Type 0
HasCountedNothing j = j.part ≡ 0

-- memory for what so many workers leave of so many cells
pub record IsRoomFor {M F : Type 0} (workers cells : ℕ) (room : Room M F) : Type 0 where
  pub seats : vec_capacity room.seats ≡ workers
  pub lists : vec_capacity room.lists ≡ workers
  pub ends : vec_capacity room.ends ≡ cells
  pub no_seats : room.seats.items ≡ []
  pub no_lists : room.lists.items ≡ []
  pub no_ends : room.ends.items ≡ []
  pub places : room.places.items ≡ replicate cells None

-- the ends that stand in places
abbrev pub ends_at : {X : Type 0} → List (Option X) → List X
ends_at [] = []
ends_at (None ∷ places) = ends_at places
ends_at (Some x ∷ places) = x ∷ ends_at places
