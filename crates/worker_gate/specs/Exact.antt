-- What all workers left is what running every covering test on every mutant says (this project's
-- own).
use Rattle.std.specs.Prelude.{◌≡◌, ℕ, ◌≤◌, List, Bool}
use Rattle.std.specs.List.{AllZip}
use Rattle.job_rules.specs.Ended.{Ended, detections_by, records_by_all}
use Rattle.job_rules.specs.Tried.{Tried, knowns, detections, needed_of_all, cost_of_all, need_cost}
use Rattle.job_rules.specs.Worked.{parted}
use Rattle.mutant_table.specs.declared.rule.Sizes.{Sizes}
use Rattle.worker_gate.specs.Hands.{Reading, Runs}
use Rattle.worker_gate.specs.Settled.{IsTableFor, Places, Settled}

module _ {M F Rec S : Type 0} (r : Reading M F Rec S) (all : Bool) where
  -- the detections of a mutant by the ends of its cells are those by its tests' runs
  abbrev pub DetectsAlike : List (Tried Rec) → List (Ended Rec) → Type 0
  DetectsAlike ts es = detections_by r.say all ts es ≡ detections r.say all ts

  -- Of the ends of all cells, by so many workers: verdicts, records and cost.
  pub record IsExact
      (workers : ℕ) (ms : Runs Rec) (cost : ℕ) (gathered : List (Ended Rec))
      : Type 0 where
    pub detect : AllZip DetectsAlike ms (parted ms gathered)
    pub records : records_by_all r.say all (parted ms gathered)
        ≡ knowns (needed_of_all r.say all ms)
    pub least : need_cost r.say r.steps all ms ≤ cost
    pub most : cost ≤ cost_of_all r.steps ms
    pub one : workers ≡ 1 → cost ≡ need_cost r.say r.steps all ms

abbrev pub SettledIsExact : (M F Rec S : Type 0) → Type 0
SettledIsExact M F Rec S =
    (r : Reading M F Rec S) (z : Sizes) (all : Bool) (order : List ℕ) (ms : Runs Rec) (cost : ℕ)
    (places : Places M F) → IsTableFor z order ms → (s : Settled r z all ms cost places) →
    IsExact r all z.workers ms cost s.gathered
