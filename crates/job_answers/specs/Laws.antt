-- What is said of the answer of a suite's job.
use Rattle.std.specs.Prelude.{◌≡◌, ℕ, Bool, List, [], All, length, slice_get, Some, Ok, Err}
use Rattle.std.specs.Prelude.{option_map}
use Rattle.class_records.specs.Profile.{profile}
use Rattle.suite_jobs.specs.Below.{original_asked, AllPass}
use Rattle.record_rules.specs.declared.record.RunRecord.{RunRecord}
use Rattle.record_rules.specs.Records.{Asked, record_of}
use Rattle.record_rules.specs.Histories.{new_records, reused}
use Rattle.record_rules.specs.Jobs.{cost, Cost}
use Rattle.reuse_laws.specs.Jobs.{AreTrue}
use Rattle.history_rules.specs.Fitting.{FitsFields}
use Rattle.history_rules.specs.Laws.{AreWritable, IsFormed}
use Rattle.suite_jobs.specs.Jobs.{Allowed, Suite, IsAccepted, asked_job, job_runs, made_by}
use Rattle.job_answers.specs.Answers.{JobAnswer, asked_cells, asked_cost, cell_total, exactly}
use Rattle.job_answers.specs.Answers.{failed_tests, job_answer, job_cost, job_reused, job_scratch}
use Rattle.job_answers.specs.Answers.{need_of, verdict_in, verdicts_anew}
use Rattle.job_answers.specs.declared.refusal.JobRefusal.{JobRefusal}

-- Where all old records are true, they change nothing of the answer.
abbrev pub TrueRecordsChangeNothing : Type 0
TrueRecordsChangeNothing =
    (a : Allowed) (s : Suite) (old : List RunRecord) (all : Bool) → IsAccepted s →
    AreTrue profile old → job_answer a s old all ≡ job_answer a s [] all

-- Then it isn't refused for a test exactly where all tests pass on the program as it is; and its
-- verdicts are those by the runs of every test on every mutant.
pub record IsOfAllTests (a : Allowed) (s : Suite) (old : List RunRecord) : Type 0 where
  pub green : failed_tests (job_runs a s old) ≡ [] → AllPass s.program a.limits a.steps s.tests
  pub passing : AllPass s.program a.limits a.steps s.tests → failed_tests (job_runs a s old) ≡ []
  pub verdicts :
      (all : Bool) (x : JobAnswer) → job_answer a s old all ≡ Ok x →
      x.verdicts ≡ verdicts_anew all a s

abbrev pub AnswersAreOfAllTests : Type 0
AnswersAreOfAllTests =
    (a : Allowed) (s : Suite) (old : List RunRecord) → IsAccepted s → AreTrue profile old →
    IsOfAllTests a s old

-- Each mutant has one verdict, in the order of the mutants.
pub record HasEachVerdict (a : Allowed) (s : Suite) (old : List RunRecord) (all : Bool)
    (x : JobAnswer) : Type 0 where
  pub count : length x.verdicts ≡ length s.mutants
  pub each :
      (k : ℕ) → slice_get x.verdicts k ≡ option_map (verdict_in a s old all) (slice_get s.mutants k)

abbrev pub EachMutantHasOneVerdict : Type 0
EachMutantHasOneVerdict =
    (a : Allowed) (s : Suite) (old : List RunRecord) (all : Bool) (x : JobAnswer) →
    job_answer a s old all ≡ Ok x → HasEachVerdict a s old all x

-- The records of an answer are true where all old records are.
abbrev pub AnswersAreTrue : Type 0
AnswersAreTrue =
    (a : Allowed) (s : Suite) (old : List RunRecord) (all : Bool) (x : JobAnswer) → IsAccepted s →
    AreTrue profile old → job_answer a s old all ≡ Ok x → AreTrue profile x.records

-- Where no test fails, the answer is that of the job that is asked, of which each run is made anew:
-- as many runs on mutants reach their lines, and the new records are those of the runs that are
-- needed, by the mutants' own runs.
pub record IsAsAsked (a : Allowed) (s : Suite) (old : List RunRecord) : Type 0 where
  pub cells : cell_total (job_runs a s old) ≡ asked_cells (asked_job a s)
  pub records :
      (all : Bool) (x : JobAnswer) → job_answer a s old all ≡ Ok x →
      x.records ≡ new_records (need_of all (asked_job a s))
  pub reused : (all : Bool) → job_reused a s old all ≡ reused old (need_of all (asked_job a s))

abbrev pub AnswersAreAsAsked : Type 0
AnswersAreAsAsked =
    (a : Allowed) (s : Suite) (old : List RunRecord) → IsAccepted s → AreTrue profile old →
    failed_tests (job_runs a s old) ≡ [] → IsAsAsked a s old

-- Where all tests pass and the answer isn't refused, it costs the steps of the runs that old
-- records lack: at least of those that are needed, at most of those of all tests that cover a
-- mutant.
pub record CostsAsAsked (a : Allowed) (s : Suite) (old : List RunRecord) (all : Bool) : Type 0 where
  pub least : (job_cost a s old all).least ≡ cost old (need_of all (asked_job a s))
  pub most : (job_cost a s old all).most ≡ Cost old (asked_job a s)

abbrev pub CostsAreAsAsked : Type 0
CostsAreAsAsked =
    (a : Allowed) (s : Suite) (old : List RunRecord) (all : Bool) (x : JobAnswer) → IsAccepted s →
    AreTrue profile old → job_answer a s old all ≡ Ok x → CostsAsAsked a s old all

-- A refusal costs the steps of the runs on the program as it is that old records lack.
abbrev pub RefusalsCostOriginals : Type 0
RefusalsCostOriginals =
    (a : Allowed) (s : Suite) (old : List RunRecord) (all : Bool) (refusal : JobRefusal) →
    job_answer a s old all ≡ Err refusal →
    job_cost a s old all ≡ exactly (cost old (asked_job a s).originals)

-- All in one: with true old records a job answers and costs what it does where each run is made
-- anew, but that old records save their runs' steps.
pub record IsFromScratch (a : Allowed) (s : Suite) (old : List RunRecord) (all : Bool) : Type 0
  where
    pub answer : job_answer a s old all ≡ job_scratch all a s
    pub reused :
        (x : JobAnswer) → job_answer a s old all ≡ Ok x →
        job_reused a s old all ≡ reused old (need_of all (asked_job a s))
    pub cost : job_cost a s old all ≡ asked_cost all old (asked_job a s) (job_scratch all a s)

abbrev pub AnswersAreFromScratch : Type 0
AnswersAreFromScratch =
    (a : Allowed) (s : Suite) (old : List RunRecord) (all : Bool) → IsAccepted s →
    AreTrue profile old → IsFromScratch a s old all

-- The record that a run makes is its own: it isn't stuck.
abbrev pub HasRecord : Asked → Type 0
HasRecord x = record_of x ≡ Some (made_by x)

abbrev pub OriginalsHaveRecords : Type 0
OriginalsHaveRecords =
    (a : Allowed) (s : Suite) → IsAccepted s →
    All (λ t. HasRecord (original_asked s.files s.program t a.limits a.steps)) s.tests

-- Whatever is said by old records that have the form of a history: where the records of an answer
-- fit its fields, they can be written.
abbrev pub AnswersCanBeWritten : Type 0
AnswersCanBeWritten =
    (a : Allowed) (s : Suite) (old : List RunRecord) (all : Bool) (x : JobAnswer) → IsAccepted s →
    All IsFormed old → job_answer a s old all ≡ Ok x → All FitsFields x.records →
    AreWritable x.records
