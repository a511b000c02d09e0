-- What the job of a suite gives, how it is refused, and what it costs (this project's own).
use Rattle.std.specs.Prelude.{ℕ, ◌+◌, ◌*◌, ◌≤◌, List, [], ◌++◌, codes, map, nat_eq, slice_get, if◌then◌else◌}
use Rattle.std.specs.Prelude.{Option, None, Some, Result, Ok, Err, MatchResult}
use Rattle.class_model.specs.declared.outcome.Outcome.{Outcome}
use Rattle.class_link.specs.Info.{Info}
use Rattle.class_link.specs.declared.loaded.Loaded.{Loaded}
use Rattle.class_table.specs.declared.scripted.Test.{Test}
use Rattle.history_rules.specs.Histories.{written}
use Rattle.history_rules.specs.declared.fault.HistoryFault.{HistoryFault}
use Rattle.history_rules.specs.declared.fault.HistoryFault.TheVariants as fault
use Rattle.mutator_ops.specs.Printing.{printed}
use Rattle.mutator_ops.specs.declared.mutant.Verdict.{Verdict}
use Rattle.new_history.specs.Left.{Left}
use Rattle.record_rules.specs.declared.record.RunRecord.{RunRecord}
use Rattle.suite_runs.specs.Below.{JobAnswer, JobCost, job_answer, job_cost, job_reused}
use Rattle.suite_runs.specs.Below.{FailedTest}
use Rattle.suite_runs.specs.Below.{JobRefusal}
use Rattle.suite_runs.specs.Below.job_answers_declared_refusal_JobRefusal_TheVariants as job
use Rattle.suite_runs.specs.Ending.{IsSuiteOf, allowed_in, suite_of}
use Rattle.suite_runs.specs.declared.job.SuiteJob.{SuiteJob}
use Rattle.suite_runs.specs.Below.{records_in, OldRecords}
use Rattle.mutest_engine.specs.Old.{profile_number}
use Rattle.mutest_engine.specs.Steps.{and_then, Gives, Refuses}
use Rattle.mutest_engine.specs.declared.job.JobMade.{JobMade}
use Rattle.mutest_engine.specs.declared.stop.Stop.{Stop}
use Rattle.mutest_engine.specs.declared.refusal.Refusal.{Refusal}
use Rattle.mutest_engine.specs.declared.refusal.Refusal.TheVariants.{NotGreen, TooMany}
use Rattle.mutest_engine.specs.declared.refusal.Limit.TheVariants as limit

-- ---- how it is refused

-- CLASS.METHOD
abbrev pub test_text : Test → List ℕ
test_text t = printed t.class ++ codes "." ++ printed t.method

abbrev pub text_in : Option Test → List ℕ
text_in None = []
text_in (Some t) = test_text t

-- A test that doesn't pass, as it is told.
abbrev pub failure_of : List Test → FailedTest → List ℕ × Outcome
failure_of ts f = (text_in (slice_get ts f.test), f.outcome)

abbrev pub refusal_of : List Test → JobRefusal → Refusal
refusal_of ts (job.NotGreen failed) = NotGreen (map (failure_of ts) failed)
refusal_of ts job.TooManyCells = TooMany limit.Cells 4194305

abbrev pub or_refusal : List Test → Result JobAnswer JobRefusal → Result JobAnswer Refusal
or_refusal ts (Ok x) = Ok x
or_refusal ts (Err refusal) = Err (refusal_of ts refusal)

-- ---- the new history

-- A history of more than 536,870,912 bytes isn't written. To write has no other fault than that.
abbrev pub long_history : HistoryFault → Refusal
long_history (fault.TooLong len) = TooMany limit.History len
long_history (fault.HistoryBad at) = TooMany limit.History at
long_history fault.Memory = TooMany limit.History 0

abbrev pub or_long : Result (List ℕ) HistoryFault → Result (List ℕ) Refusal
or_long (Ok bytes) = Ok bytes
or_long (Err f) = Err (long_history f)

abbrev pub new_history : List RunRecord → Result (List ℕ) Refusal
new_history records = or_long (written profile_number records)

-- ---- what it gives

-- The verdicts, the bytes of the new history, and how many of its records old ones stand for.
abbrev pub made_of : JobAnswer → ℕ → List ℕ → JobMade
made_of x reused history = record { verdicts = x.verdicts; history = history; reused = reused }

abbrev pub with_history : ℕ → JobAnswer → Result JobMade Refusal
with_history reused x =
    and_then (new_history x.records) (λ history. Ok (made_of x reused history))

-- The same by what the code has.
abbrev pub with_left : List Verdict → Left → Result JobMade Refusal
with_left verdicts left =
    and_then (new_history left.records) (λ history.
    Ok (record { verdicts = verdicts; history = history; reused = left.reused }))

-- The same of an answer that may be a refusal.
abbrev pub job_made : List Test → ℕ → Result JobAnswer JobRefusal → Result JobMade Refusal
job_made ts reused answer = and_then (or_refusal ts answer) (with_history reused)

-- ---- what it costs

-- The steps at least and at most where a call ends as it is stated, and at most where memory runs
-- out.
pub record Bounds : Type 0 where
  pub least : ℕ
  pub most : ℕ
  pub in_all : ℕ

abbrev pub no_steps : Bounds
no_steps = record { least = 0; most = 0; in_all = 0 }

-- One worker takes the least.
abbrev pub job_bounds : ℕ → JobCost → Bounds
job_bounds workers c = record {
  least = c.least;
  most = if nat_eq workers 1 then c.least else c.most;
  in_all = workers * c.most;
}

-- The meter rose within these bounds.
pub record RoseWithin (b : Bounds) (before after : ℕ) : Type 0 where
  pub least : before + b.least ≤ after
  pub most : after ≤ before + b.most

-- Where only the most is known.
pub record RoseAtMost (b : Bounds) (before after : ℕ) : Type 0 where
  pub least : before ≤ after
  pub most : after ≤ before + b.most

-- Wherever memory may have run out.
pub record RoseInAll (b : Bounds) (before after : ℕ) : Type 0 where
  pub least : before ≤ after
  pub most : after ≤ before + b.in_all

-- The second in any case, the first where the step has its stated end.
pub record Meters {X : Type 0} (b : Bounds) (before after : ℕ) (result : Result X Stop) : Type 0
  where
    pub in_all : RoseInAll b before after
    pub ended :
        MatchResult result (λ x. RoseWithin b before after)
        (Refuses (λ r. RoseWithin b before after))

-- ---- the job of a suite by its classes' numbers

-- It is the job of such a suite.
abbrev pub GivesJob : List Info → SuiteJob → OldRecords → Result JobMade Stop → Type 0
GivesJob p j old result =
    (files : List Loaded) → IsSuiteOf files p j →
    Gives
    (job_made j.tests.now
    (job_reused (allowed_in j) (suite_of files p j) (records_in old) j.all)
    (job_answer (allowed_in j) (suite_of files p j) (records_in old) j.all)) result

abbrev pub MetersJob :
    List Info → SuiteJob → OldRecords → ℕ → ℕ → Result JobMade Stop → Type 0
MetersJob p j old before after result =
    (files : List Loaded) → IsSuiteOf files p j →
    Meters
    (job_bounds j.workers (job_cost (allowed_in j) (suite_of files p j) (records_in old) j.all))
    before after result
