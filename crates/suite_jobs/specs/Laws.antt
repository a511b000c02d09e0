-- What old records change of a job, where all are true: nothing but what it costs.
use Rattle.std.specs.Prelude.{◌≡◌, ◌≤◌, ℕ, Bool, true, false, List, [], All, map, Some, None}
use Rattle.class_model.specs.declared.class.Class.{Class}
use Rattle.machine_rules.specs.Runs.{Ran}
use Rattle.mutator_ops.specs.declared.mutant.Mutant.{Mutant}
use Rattle.suite_records.specs.Below.{AllPass, all_verdicts, reaches, detected}
use Rattle.record_rules.specs.declared.record.RunRecord.{RunRecord}
use Rattle.record_rules.specs.Records.{Asked, run, record_of}
use Rattle.record_rules.specs.Truth.{IsTrueRecord}
use Rattle.record_rules.specs.Histories.{same_record}
use Rattle.record_rules.specs.Jobs.{NeedCost, Cost}
use Rattle.reuse_laws.specs.Jobs.{AreTrue}
use Rattle.class_records.specs.Profile.{profile}
use Rattle.suite_records.specs.Suites.{IsReusable}
use Rattle.job_rules.specs.Tried.{Tried, JobRuns, known, detections, need, least_cost, most_cost}
use Rattle.job_rules.specs.Tried.{records_once}
use Rattle.suite_jobs.specs.Jobs.{Allowed, Suite, IsAccepted, IsOfFile, says, has_reached, job_runs}
use Rattle.suite_jobs.specs.Jobs.{job_verdict, asked_job, viable_file, mutant_runs, every_run}
use Rattle.suite_jobs.specs.Jobs.{reaching, detecting}

-- ---- each run

-- Each run of a job, on the program as it is and on mutants.
pub record EachRun (P : Tried RunRecord → Type 0) (j : JobRuns RunRecord) : Type 0 where
  pub originals : All P j.originals
  pub mutants : All (All P) j.mutants

-- What is known of it is the record of its own run, which isn't stuck; and that is true.
pub record IsOwn (t : Tried RunRecord) : Type 0 where
  pub asked : Asked
  pub reusable : IsReusable asked
  pub record_is : record_of asked ≡ Some t.made
  pub known_is : known t ≡ t.made
  pub true_is : IsTrueRecord profile t.made

abbrev pub RunsAreOwn : Type 0
RunsAreOwn =
    (a : Allowed) (s : Suite) (old : List RunRecord) → IsAccepted s → AreTrue profile old →
    EachRun IsOwn (job_runs a s old)

-- ---- the whole job

-- A job without what old records have of its runs.
abbrev pub forgotten : Tried RunRecord → Tried RunRecord
forgotten t = record t { found = None }

abbrev pub from_scratch : JobRuns RunRecord → JobRuns RunRecord
from_scratch j = record {
  originals = map forgotten j.originals;
  mutants = map (map forgotten) j.mutants;
}

-- Old records leave the runs of a job as they are without any.
abbrev pub RunsStayTheSame : Type 0
RunsStayTheSame =
    (a : Allowed) (s : Suite) (old : List RunRecord) → IsAccepted s → AreTrue profile old →
    from_scratch (job_runs a s old) ≡ job_runs a s []

-- Two jobs give one answer: of each original run the same is known, each mutant has the same
-- detecting tests with their states, whether all are asked for or the first, and the new records
-- are the same.
pub record AnswerAlike (j k : JobRuns RunRecord) : Type 0 where
  pub originals : map known j.originals ≡ map known k.originals
  pub covering : map (map (λ t. t.test)) j.mutants ≡ map (map (λ t. t.test)) k.mutants
  pub detections :
      (all : Bool) → map (detections says all) j.mutants ≡ map (detections says all) k.mutants
  pub records :
      (all : Bool) →
      records_once same_record (need says all j) ≡ records_once same_record (need says all k)

-- With true old records a job gives the answer that it gives without any.
abbrev pub ReuseChangesNoAnswer : Type 0
ReuseChangesNoAnswer =
    (a : Allowed) (s : Suite) (old : List RunRecord) → IsAccepted s → AreTrue profile old →
    AnswerAlike (job_runs a s old) (job_runs a s [])

-- The new records are true. So they are good as old ones.
abbrev pub NewRecordsAreTrue : Type 0
NewRecordsAreTrue =
    (a : Allowed) (s : Suite) (old : List RunRecord) (all : Bool) → IsAccepted s →
    AreTrue profile old →
    AreTrue profile (records_once same_record (need says all (job_runs a s old)))

-- ---- what it costs

abbrev pub steps_of : RunRecord → ℕ
steps_of r = r.steps

-- The steps of the needed runs that old records lack are at most those of all runs that they lack;
-- and old records save steps, of both.
pub record CostsNoMore (j k : JobRuns RunRecord) : Type 0 where
  pub between : (all : Bool) → least_cost says steps_of all j ≤ most_cost steps_of j
  pub least : (all : Bool) → least_cost says steps_of all j ≤ least_cost says steps_of all k
  pub most : most_cost steps_of j ≤ most_cost steps_of k

abbrev pub ReuseCostsNoMore : Type 0
ReuseCostsNoMore =
    (a : Allowed) (s : Suite) (old : List RunRecord) → IsAccepted s → AreTrue profile old →
    CostsNoMore (job_runs a s old) (job_runs a s [])

-- ---- records and runs

-- A record says what its run says: how many steps it took, whether it reached a mutant's line, and
-- whether it detects one.
pub record SaysRun (r : RunRecord) (ran : Ran) : Type 0 where
  pub steps : r.steps ≡ ran.steps
  pub reaches : (m : Mutant) → has_reached m r ≡ reaches m ran
  pub detects : says r ≡ detected ran.ending

abbrev pub RecordsSayRuns : Type 0
RecordsSayRuns =
    (x : Asked) (r : RunRecord) → IsReusable x → record_of x ≡ Some r → SaysRun r (run x)

-- ---- verdicts

-- Where all tests pass, the verdicts of a job are those by the runs of every test on every mutant.
abbrev pub VerdictsAreOfAllTests : Type 0
VerdictsAreOfAllTests =
    (a : Allowed) (s : Suite) (old : List RunRecord) → IsAccepted s → AreTrue profile old →
    AllPass s.program a.limits a.steps s.tests →
    map (job_verdict a s old) s.mutants
    ≡ all_verdicts s.program a.limits a.steps s.tests s.mutants

-- Of the runs of a job on a mutant: their tests are all whose runs on it reach its line, and those
-- that detect it are all that do.
pub record SaysAllTests (a : Allowed) (s : Suite) (m : Mutant) (made : Class × List ℕ)
    (ts : List (Tried RunRecord)) : Type 0 where
  pub covering : map (λ t. t.test) ts ≡ reaching m (every_run a s made)
  pub detections : detections says true ts ≡ detecting (every_run a s made)

-- Where all tests pass, so it is of each mutant that is viable.
abbrev pub DetectionsAreOfAllTests : Type 0
DetectionsAreOfAllTests =
    (a : Allowed) (s : Suite) (old : List RunRecord) → IsAccepted s → AreTrue profile old →
    AllPass s.program a.limits a.steps s.tests → (m : Mutant) → IsOfFile s.program m →
    (made : Class × List ℕ) → viable_file s.program m ≡ Some made →
    SaysAllTests a s m made (mutant_runs a s old m)

-- ---- the runs that old records lack

-- Where all tests pass, the least and the most that a job may take are the steps of the runs that
-- old records lack: of those that are needed, and of those of all tests that cover a mutant, by
-- their runs on it.
pub record CostsAsAsked (a : Allowed) (s : Suite) (old : List RunRecord) : Type 0 where
  pub least : least_cost says steps_of false (job_runs a s old) ≡ NeedCost old (asked_job a s)
  pub most : most_cost steps_of (job_runs a s old) ≡ Cost old (asked_job a s)

abbrev pub JobsCostAsAsked : Type 0
JobsCostAsAsked =
    (a : Allowed) (s : Suite) (old : List RunRecord) → IsAccepted s → AreTrue profile old →
    AllPass s.program a.limits a.steps s.tests → CostsAsAsked a s old
