-- What the job of a suite answers, by what is known of its runs, and what it costs (this project's
-- own).
use Rattle.std.specs.Prelude.{ℕ, Bool, true, false, List, [], ◌∷◌, map, sum_by, length, nat_lt, Result}
use Rattle.std.specs.Prelude.{Ok, Err}
use Rattle.std.specs.Prelude.{if◌then◌else◌}
use Rattle.std.specs.List.{flat_map}
use Rattle.std.specs.Option.{option_map_or}
use Rattle.class_model.specs.declared.outcome.Outcome.{Outcome}
use Rattle.class_model.specs.declared.outcome.Outcome.TheVariants.{Passed}
use Rattle.machine_rules.specs.Runs.{Ran}
use Rattle.mutator_ops.specs.declared.mutant.Mutant.{Mutant}
use Rattle.mutator_ops.specs.declared.mutant.State.{State}
use Rattle.mutator_ops.specs.declared.mutant.Verdict.{Verdict}
use Rattle.suite_jobs.specs.Below.{all_verdicts, verdict_by, not_viable}
use Rattle.record_rules.specs.declared.record.RunRecord.{RunRecord}
use Rattle.record_rules.specs.Histories.{same_record, new_records}
use Rattle.record_rules.specs.Records.{Asked}
use Rattle.record_rules.specs.Jobs.{Job, covering_runs, need as asked_need, all_runs, cost, Cost}
use Rattle.job_rules.specs.Tried.{Tried, JobRuns, known, detections, need, cost_of, least_cost}
use Rattle.job_rules.specs.Tried.{most_cost, records_once, reused_among}
use Rattle.suite_jobs.specs.Jobs.{Allowed, Suite, says, first_of, viable_file, mutant_runs}
use Rattle.suite_jobs.specs.Jobs.{job_runs, asked_job, every_run, reaching, detecting}
use Rattle.suite_jobs.specs.Laws.{steps_of}
use Rattle.job_answers.specs.declared.refusal.FailedTest.{FailedTest}
use Rattle.job_answers.specs.declared.refusal.JobRefusal.{JobRefusal}
use Rattle.job_answers.specs.declared.refusal.JobRefusal.TheVariants.{NotGreen, TooManyCells}

-- ---- verdicts

-- The verdict by the tests that cover a mutant and those that detect it, each with the state that
-- it gives: the first one's state, and all are its killers.
abbrev pub verdict_with : List ℕ → List (ℕ × State) → Verdict
verdict_with covering found =
    record (verdict_by covering (first_of found)) { killers = map (λ d. d.0) found }

abbrev pub verdict_of_runs : Bool → List (Tried RunRecord) → Verdict
verdict_of_runs all ts = verdict_with (map (λ t. t.test) ts) (detections says all ts)

-- The verdict on a mutant, where `all` says whether all detecting tests are asked for.
abbrev pub verdict_in : Allowed → Suite → List RunRecord → Bool → Mutant → Verdict
verdict_in a s old all m =
    option_map_or (λ made. verdict_of_runs all (mutant_runs a s old m)) (viable_file s.program m)
    not_viable

-- ---- refusals

-- A test of which what is known isn't that it passes.
abbrev pub unless_passed : ℕ → Outcome → List FailedTest
unless_passed test Passed = []
unless_passed test outcome = record { test = test; outcome = outcome } ∷ []

abbrev pub failed_by : Tried RunRecord → List FailedTest
failed_by t = unless_passed t.test (known t).outcome

abbrev pub failed_tests : JobRuns RunRecord → List FailedTest
failed_tests j = flat_map failed_by j.originals

-- How many tests cover mutants, each counted for each mutant that it covers.
abbrev pub cell_total : JobRuns RunRecord → ℕ
cell_total j = sum_by length j.mutants

abbrev pub most_cells : ℕ
most_cells = 4194304

-- The first refusal, if there is one; else this.
abbrev pub unless_failed :
    {X : Type 0} → List FailedTest → Result X JobRefusal → Result X JobRefusal
unless_failed [] next = next
unless_failed (t ∷ ts) next = Err (NotGreen (t ∷ ts))

abbrev pub unless_many : {X : Type 0} → ℕ → Result X JobRefusal → Result X JobRefusal
unless_many cells next = if nat_lt most_cells cells then Err TooManyCells else next

-- ---- the answer

-- The verdict on each mutant, and the records of the runs that are needed, equal ones once.
pub record JobAnswer : Type 0 where
  pub verdicts : List Verdict
  pub records : List RunRecord

abbrev pub answer_by : Allowed → Suite → List RunRecord → Bool → JobAnswer
answer_by a s old all = record {
  verdicts = map (verdict_in a s old all) s.mutants;
  records = records_once same_record (need says all (job_runs a s old));
}

unfoldable pub job_answer : Allowed → Suite → List RunRecord → Bool → Result JobAnswer JobRefusal
job_answer a s old all =
    unless_failed (failed_tests (job_runs a s old))
    (unless_many (cell_total (job_runs a s old)) (Ok (answer_by a s old all)))

-- How many of the records old ones stand for.
abbrev pub job_reused : Allowed → Suite → List RunRecord → Bool → ℕ
job_reused a s old all = reused_among same_record (need says all (job_runs a s old))

-- ---- what it costs

-- The steps at least and at most, and those of all runs that old records lack.
pub record JobCost : Type 0 where
  pub least : ℕ
  pub most : ℕ

abbrev pub exactly : ℕ → JobCost
exactly n = record { least = n; most = n }

abbrev pub cost_by : {X : Type 0} → Bool → JobRuns RunRecord → Result X JobRefusal → JobCost
cost_by all j (Ok x) =
    record { least = least_cost says steps_of all j; most = most_cost steps_of j }
cost_by all j (Err refusal) = exactly (cost_of steps_of j.originals)

abbrev pub job_cost : Allowed → Suite → List RunRecord → Bool → JobCost
job_cost a s old all = cost_by all (job_runs a s old) (job_answer a s old all)

-- ---- from scratch

-- How many runs of tests on mutants reach the mutants' lines.
abbrev pub asked_cells : Job → ℕ
asked_cells j = sum_by (λ t. length (covering_runs t)) j.trials

-- The verdict on a mutant by a run of every test on it: each that detects it is a killer.
abbrev pub verdict_by_every : Mutant → List (ℕ × Ran) → Verdict
verdict_by_every m runs = verdict_with (reaching m runs) (detecting runs)

abbrev pub verdict_of_every : Allowed → Suite → Mutant → Verdict
verdict_of_every a s m =
    option_map_or (λ made. verdict_by_every m (every_run a s made)) (viable_file s.program m)
    not_viable

-- The verdicts by the runs of every test on every mutant, where all killers are asked for, or the
-- first.
abbrev pub verdicts_anew : Bool → Allowed → Suite → List Verdict
verdicts_anew false a s = all_verdicts s.program a.limits a.steps s.tests s.mutants
verdicts_anew true a s = map (verdict_of_every a s) s.mutants

-- The runs that are needed: those of covering tests up to the first that detects, or of all.
abbrev pub need_of : Bool → Job → List Asked
need_of false j = asked_need j
need_of true j = all_runs j

-- Where each run is made anew: these verdicts, and the records of the runs that are needed, by the
-- mutants' own runs.
abbrev pub answer_anew : Bool → Allowed → Suite → JobAnswer
answer_anew all a s = record {
  verdicts = verdicts_anew all a s;
  records = new_records (need_of all (asked_job a s));
}

abbrev pub job_scratch : Bool → Allowed → Suite → Result JobAnswer JobRefusal
job_scratch all a s =
    unless_failed (failed_tests (job_runs a s []))
    (unless_many (asked_cells (asked_job a s)) (Ok (answer_anew all a s)))

-- The steps of the runs that old records lack; where it is refused, of those on the program as it
-- is.
abbrev pub asked_cost : {X : Type 0} → Bool → List RunRecord → Job → Result X JobRefusal → JobCost
asked_cost all old j (Ok x) = record { least = cost old (need_of all j); most = Cost old j }
asked_cost all old j (Err refusal) = exactly (cost old j.originals)
