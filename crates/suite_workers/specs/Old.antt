-- Old records, found by number (this project's own).
use Rattle.std.specs.Prelude.{◌≡◌, ◌<◌, ℕ, List, [], ◌∷◌, length, map, Option, Some, None, IfSome, slice_get, slice_index, slice_index_or, slice_set, option_map}
use Rattle.std.specs.Option.{unwrap_or}
use Rattle.class_model.specs.declared.outcome.Outcome.TheVariants.{Passed}
use Rattle.machine_rules.specs.declared.machine.Limits.{Limits}
use Rattle.class_link.specs.Info.{Info}
use Rattle.class_table.specs.declared.scripted.Test.{Test}
use Rattle.class_table.specs.Table.{look}
use Rattle.mutator_ops.specs.declared.mutant.State.{State}
use Rattle.suite_jobs.specs.Below.{detected_by}
use Rattle.record_rules.specs.declared.record.RunRecord.{RunRecord}
use Rattle.record_rules.specs.Records.{Asked}
use Rattle.record_rules.specs.Matching.{first_match}
use Rattle.record_rules.specs.Jobs.{with_limit}
use Rattle.history_file.specs.Rows.{Numbered, outcome_of, records_of}
use Rattle.history_file.specs.declared.row.End.{End}
use Rattle.history_index.specs.declared.standings.Swap.{Swap}
use Rattle.history_index.specs.Numbers.{record_at, test_number}
use Rattle.history_index.specs.Standings.{AreAlike, AreStandings, listed, standing_in, swapped}
use Rattle.history_index.specs.Lookouts.{IsLookout, Question}
use Rattle.run_records.specs.Asking.{asked, held_by}
use Rattle.suite_workers.specs.declared.old_records.FoundRun.{FoundRun}
use Rattle.suite_workers.specs.declared.old_records.OldRecords.{OldRecords}
use Rattle.suite_workers.specs.declared.old_records.OldRecords.TheVariants as old
use Rattle.suite_workers.specs.declared.look_ups.LookUps.{LookUps}
use Rattle.suite_workers.specs.declared.look_ups.InHistory.{InHistory}

abbrev pub records_in : OldRecords → List RunRecord
records_in old.None = []
records_in (old.Of index) = records_of index.now.history

-- Their history, if there is one.
abbrev pub history_in : OldRecords → Option Numbered
history_in old.None = None
history_in (old.Of index) = Some index.now.history

-- ---- one record

-- A record of nothing: what stands at a place past a history's records.
abbrev pub no_record : RunRecord
no_record = record {
  test_class = [];
  test_method = [];
  heap = 0;
  depth = 0;
  limit = 0;
  outcome = Passed;
  steps = 0;
  consulted = [];
  reached = [];
}

-- The record that was found, with the limit of the run that is asked for.
abbrev pub found_record : FoundRun → RunRecord
found_record f =
    with_limit f.limit (unwrap_or (record_at f.index.now.history f.place) no_record)

-- The state that a record gives to a mutant, by the end of its run.
abbrev pub says_end : List (List ℕ) → End → Option State
says_end texts e = detected_by (outcome_of texts e)

-- The first of old records that matches a run, with its limit.
abbrev pub found_in : List RunRecord → Asked → Option RunRecord
found_in old x = option_map (with_limit x.limit) (first_match old x)

-- ---- look-ups

abbrev pub no_test : Test
no_test = record { class = []; method = []; script = []; expected = None }

abbrev pub test_at : List Test → ℕ → Test
test_at tests k = slice_index_or tests k no_test

abbrev pub records_there : Option InHistory → List RunRecord
records_there None = []
records_there (Some h) = records_of h.index.now.history

abbrev pub old_of : LookUps → List RunRecord
old_of l = records_there l.history

-- The history of what look-ups go by, if there is one.
abbrev pub history_there : Option InHistory → Option Numbered
history_there None = None
history_there (Some h) = Some h.index.now.history

abbrev pub history_of : LookUps → Option Numbered
history_of l = history_there l.history

-- What was found is of this history, and its place is one of a record there.
pub record IsIn (history : Option Numbered) (f : FoundRun) : Type 0 where
  pub history_is : history ≡ Some f.index.now.history
  pub there : f.place < length f.index.now.history.rows

-- Tests of one class and method have one bound.
abbrev pub AreByName : List Test → List ℕ → Type 0
AreByName tests bounds =
    (i k : ℕ) → i < length tests → k < length tests →
    (test_at tests i).class ≡ (test_at tests k).class →
    (test_at tests i).method ≡ (test_at tests k).method → slice_index bounds i ≡ slice_index bounds k

-- The bounds of a history's tests, by number, with one more set.
abbrev pub bound_set : List ℕ → Option ℕ → ℕ → List ℕ
bound_set all None bound = all
bound_set all (Some k) bound = slice_set all k bound

abbrev pub bounds_set : List ℕ → List (Option ℕ × ℕ) → List ℕ
bounds_set all [] = all
bounds_set all (b ∷ bs) = bounds_set (bound_set all b.0 b.1) bs

-- What look-ups go by in a history: the number of each test there, and a look-out for this program,
-- under these limits, in which each test has its own bound.
pub record AreInHistory
    (p : List Info) (tests : List Test) (limits : Limits) (bounds : List ℕ) (l : InHistory)
    : Type 0 where
  pub numbers : l.numbers ≡ map (λ t. test_number l.index.now t.class t.method) tests
  pub question : Question
  pub standings : List (Option ℕ)
  pub limits_are : question.limits ≡ limits
  pub bounds_are : (k t : ℕ) → k < length tests → slice_get l.numbers k ≡ Some (Some t) →
      slice_get question.bounds t ≡ Some (slice_index bounds k)
  pub stand : AreStandings l.index.now.history (look p) (held_by p) standings
  pub lookout : IsLookout l.index.now question standings l.lookout

pub record AreLookUps
    (p : List Info) (tests : List Test) (limits : Limits) (bounds : List ℕ) (l : LookUps)
    : Type 0 where
  pub long : length bounds ≡ length tests
  pub bounds_are : l.bounds ≡ bounds
  pub there : IfSome l.history (AreInHistory p tests limits bounds)

-- What is found is the first old record that matches this run.
abbrev pub IsFoundOf : LookUps → Asked → Option FoundRun → Type 0
IsFoundOf l x found = option_map found_record found ≡ found_in (old_of l) x

-- So it is of the run of the test of this number on the program.
pub record FindsOriginal (l : LookUps) (test : ℕ) (found : Option FoundRun) : Type 0 where
  pub finds : (p : List Info) (tests : List Test) (limits : Limits) (bounds : List ℕ) →
      AreLookUps p tests limits bounds l → test < length tests →
      IsFoundOf l (asked p (test_at tests test) limits (slice_index bounds test)) found

-- And of its run where one class file is another one, under the same limits.
pub record IsAskedOn
    (l : LookUps) (p : List Info) (tests : List Test) (limits : Limits) (bounds : List ℕ)
    (test : ℕ) (swap : Option Swap) (x : Asked)
    : Type 0 where
  pub class : x.test.class ≡ (test_at tests test).class
  pub method : x.test.method ≡ (test_at tests test).method
  pub limits_are : x.limits ≡ limits
  pub limit : x.limit ≡ slice_index bounds test
  pub program : IfSome l.history (λ h. (s : List (Option ℕ)) →
      AreStandings h.index.now.history (look p) (held_by p) s →
      AreAlike h.index.now.history (standing_in h.index.now.history x.look x.held)
      (swapped (listed s) swap))

pub record FindsEdited (l : LookUps) (test : ℕ) (swap : Option Swap) (found : Option FoundRun)
    : Type 0 where
  pub finds : (p : List Info) (tests : List Test) (limits : Limits) (bounds : List ℕ) (x : Asked) →
      AreLookUps p tests limits bounds l → test < length tests →
      IsAskedOn l p tests limits bounds test swap x → IsFoundOf l x found
