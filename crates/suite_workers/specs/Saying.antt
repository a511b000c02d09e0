-- What the ends of cells say, cell by cell (this project's own).
use Rattle.std.specs.Prelude.{◌≡◌, ℕ, List, [], ◌∷◌, ◌++◌, Bool, true, false, if◌then◌else◌, is_some, Option, Some, None, option_to_list, drop, length, map, take, zip}
use Rattle.record_rules.specs.declared.record.RunRecord.{RunRecord}
use Rattle.mutator_ops.specs.declared.mutant.State.{State}
use Rattle.job_rules.specs.Ended.{or_else, say_end}
use Rattle.job_rules.specs.Tried.{detections_in}
use Rattle.worker_gate.specs.Ends.{ended_of}
use Rattle.worker_gate.specs.declared.ends.CellEnd.{CellEnd}
use Rattle.worker_gate.specs.declared.ends.CellEnd.TheVariants as end
use Rattle.suite_workers.specs.Marks.{run_reading}
use Rattle.suite_workers.specs.declared.old_records.FoundRun.{FoundRun}
use Rattle.suite_workers.specs.declared.said.CellsSaid.{CellsSaid}
use Rattle.suite_workers.specs.declared.said.KnownRun.{KnownRun}
use Rattle.suite_workers.specs.declared.said.KnownRun.TheVariants as run

abbrev pub RunEnd : Type 0
RunEnd = CellEnd RunRecord FoundRun

-- What is known of a cell's run, if it was done.
abbrev pub known_end : RunEnd → Option KnownRun
known_end (end.Ran made) = Some (run.Made made)
known_end (end.Reused found) = Some (run.Found found)
known_end (end.Skipped v) = None

abbrev pub state_end : RunEnd → Option State
state_end e = say_end run_reading.say (ended_of run_reading e)

-- What is known of the runs that a mutant needs, by the ends of its cells.
abbrev pub kept_by : Bool → List RunEnd → List KnownRun
kept_by all [] = []
kept_by all (e ∷ es) =
    or_else (known_end e)
    (if all then kept_by all es else (if is_some (state_end e) then [] else kept_by all es))

-- The tests that detect it.
abbrev pub told_by : Bool → List ℕ → List RunEnd → List (ℕ × State)
told_by all tests es = detections_in all (zip tests (map state_end es))

-- The same of all mutants, whose tests these are.
abbrev pub kept_all : Bool → List (List ℕ) → List RunEnd → List KnownRun
kept_all all [] es = []
kept_all all (tests ∷ covering) es =
    kept_by all (take (length tests) es) ++ kept_all all covering (drop (length tests) es)

abbrev pub told_all : Bool → List (List ℕ) → List RunEnd → List (List (ℕ × State))
told_all all [] es = []
told_all all (tests ∷ covering) es =
    told_by all tests (take (length tests) es) ∷ told_all all covering (drop (length tests) es)

-- Whether a mutant stays unsettled behind an end that gives this state, and what that tells.
abbrev pub open_with : Bool → Option State → Bool
open_with all None = true
open_with all (Some state) = all

abbrev pub told_with : ℕ → Option State → List (ℕ × State)
told_with test None = []
told_with test (Some state) = (test, state) ∷ []

-- The same of the first of these ends, if there is one and the mutant is unsettled.
abbrev pub open_after : Bool → Bool → List RunEnd → Bool
open_after all false es = false
open_after all true [] = true
open_after all true (e ∷ es) = open_with all (state_end e)

abbrev pub kept_next : Bool → List RunEnd → List KnownRun
kept_next false es = []
kept_next true [] = []
kept_next true (e ∷ es) = option_to_list (known_end e)

abbrev pub told_next : ℕ → Bool → List RunEnd → List (ℕ × State)
told_next test false es = []
told_next test true [] = []
told_next test true (e ∷ es) = told_with test (state_end e)

pub record AddsNext
    (all : Bool) (test : ℕ) (was now : Bool) (ends rest : List RunEnd)
    (said more : List (ℕ × State)) (old new : List KnownRun)
    : Type 0 where
  pub open_is : now ≡ open_after all was ends
  pub rest_is : rest ≡ drop 1 ends
  pub told : more ≡ said ++ told_next test was ends
  pub kept : new ≡ old ++ kept_next was ends

-- What is said of one mutant by the first of these ends; the others are left.
pub record SaysOne
    (all : Bool) (tests : List ℕ) (ends rest : List RunEnd) (old new : List KnownRun)
    (said : List (ℕ × State))
    : Type 0 where
  pub rest_is : rest ≡ drop (length tests) ends
  pub kept : new ≡ old ++ kept_by all (take (length tests) ends)
  pub told : said ≡ told_by all tests (take (length tests) ends)

pub record SaysAll
    (all : Bool) (covering : List (List ℕ)) (ends : List RunEnd) (said : CellsSaid)
    : Type 0 where
  pub kept : said.records ≡ kept_all all covering ends
  pub told : said.detections ≡ told_all all covering ends
