-- What all workers left, put together (this project's own).
use Rattle.std.specs.Prelude.{◌≡◌, ℕ, ◌+◌, ◌<◌, List, [], ◌∷◌, Bool, true, false, ◌||◌, Option, Some, None, All, length, map, replicate, slice_index_or, Vec}
use Rattle.std.specs.declared.alloc.Global.{Global}
use Rattle.std.specs.Option.{option_map}
use Rattle.atomic_table.specs.Seated.{TableId}
use Rattle.claim_core.specs.Claims.{no_place}
use Rattle.job_rules.specs.Tried.{Ascend}
use Rattle.job_rules.specs.Ended.{Ended, AreAllEnds, AllSkipBehind, cost_of_all_ends}
use Rattle.job_rules.specs.Worked.{cells_of, IsOrderOf, parted}
use Rattle.job_rules.specs.Gathered.{flat, put_all}
use Rattle.mt_edge.specs.declared.outside.EdgeFault.{EdgeFault}
use Rattle.mt_edge.specs.declared.outside.EdgeFault.TheVariants.{Failed, Memory}
use Rattle.mutant_table.specs.Seats.{worker_of, AgreesAtEnd, cells_of as cells_at}
use Rattle.mutant_table.specs.declared.table.ClaimEnd.{ClaimEnd}
use Rattle.mutant_table.specs.declared.table.ClaimTable.{ClaimTable}
use Rattle.mutant_table.specs.declared.rule.Sizes.{Sizes}
use Rattle.mutant_table.specs.declared.seat.ClaimSeat.{ClaimSeat}
use Rattle.worker_gate.specs.Ends.{ended_of, Left}
use Rattle.worker_gate.specs.Hands.{Reading, Runs}
use Rattle.worker_gate.specs.declared.ends.CellEnd.{CellEnd}
use Rattle.worker_gate.specs.declared.ends.WorkEnd.{WorkEnd}

-- the cells that one worker did, as it keeps them
abbrev pub CellList : Type 0 → Type 0 → Type 0
CellList M F = Vec (ℕ × CellEnd M F) Global

abbrev pub items_of : {M F : Type 0} → CellList M F → List (ℕ × CellEnd M F)
items_of list = list.items

-- the ends of all cells, each in the place of its number
abbrev pub Places : Type 0 → Type 0 → Type 0
Places M F = Vec (Option (CellEnd M F)) Global

abbrev pub placed : {M F Rec S : Type 0} → Reading M F Rec S → Option (CellEnd M F) → Option (Ended Rec)
placed r o = option_map (ended_of r) o

abbrev pub seat_of : {C M F : Type 0} → WorkEnd C M F → ClaimSeat
seat_of e = e.job.seat

abbrev pub cells_in : {C M F : Type 0} → WorkEnd C M F → CellList M F
cells_in e = e.cells

abbrev pub is_wanting : Option EdgeFault → Bool
is_wanting None = false
is_wanting (Some Failed) = false
is_wanting (Some Memory) = true

abbrev pub any_wanting : {C M F : Type 0} → List (WorkEnd C M F) → Bool
any_wanting [] = false
any_wanting (e ∷ es) = is_wanting e.fault || any_wanting es

abbrev pub parts_of : {C M F : Type 0} → List (WorkEnd C M F) → ℕ
parts_of [] = 0
parts_of (e ∷ es) = e.job.part + parts_of es

-- what all workers of a table left, in the order of their seats
pub record AreLeft
    {C M F Rec S : Type 0} (r : Reading M F Rec S) (table : TableId) (z : Sizes) (all : Bool)
    (order : List ℕ) (ms : Runs Rec) (es : List (WorkEnd C M F))
    : Type 0 where
  pub count : length es ≡ z.workers
  pub each : (k : ℕ) (d : WorkEnd C M F) → k < length es →
      Left r table z all order ms (slice_index_or es k d)
      × (worker_of (slice_index_or es k d).job.seat ≡ k)

-- the table has the cells of these runs, and they are drawn in this order
pub record IsTableFor {Rec : Type 0} (z : Sizes) (order : List ℕ) (ms : Runs Rec) : Type 0 where
  pub cells : z.cells ≡ length (cells_of ms)
  pub places : All (λ cell. cell.place < no_place) (cells_of ms)
  pub order_is : IsOrderOf (cells_of ms) order
  pub ascend : All Ascend ms

-- All cells have ended as the laws of jobs ask; the executed ones cost so much; and one worker has
-- skipped all that may be skipped.
pub record Settled
    {M F Rec S : Type 0} (r : Reading M F Rec S) (z : Sizes) (all : Bool) (ms : Runs Rec) (cost : ℕ)
    (places : Places M F)
    : Type 0 where
  pub gathered : List (Ended Rec)
  pub count : length gathered ≡ z.cells
  pub filled : map (placed r) places.items ≡ map Some gathered
  pub ends : AreAllEnds r.say all ms (parted ms gathered)
  pub costs : cost_of_all_ends r.steps (parted ms gathered) ≡ cost
  pub one : z.workers ≡ 1 → all ≡ false → AllSkipBehind r.say ms (parted ms gathered)

-- the table was closed on these seats, and the ends of these lists stand in their places
pub record Closed
    {M F : Type 0} (t : ClaimTable) (seats : List ClaimSeat) (lists : List (CellList M F))
    (places : Places M F)
    : Type 0 where
  pub end : ClaimEnd
  pub agree : AgreesAtEnd t seats end
  pub put : places.items ≡ put_all (flat (map items_of lists)) (replicate (cells_at t) None)

-- the same of what all workers left, for every job of which it is
pub record SettlesAll
    {C M F Rec S : Type 0} (r : Reading M F Rec S) (table : TableId) (z : Sizes) (es : List (WorkEnd C M F))
    (places : Places M F)
    : Type 0 where
  pub settles : (all : Bool) (order : List ℕ) (ms : Runs Rec) → IsTableFor z order ms →
      AreLeft r table z all order ms es → Settled r z all ms (parts_of es) places
