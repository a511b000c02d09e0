-- What the report is made of (this project's own).
use Rattle.std.specs.Prelude.{◌≡◌, ℕ, Bool, List, [], Result, Ok}
use Rattle.class_table.specs.declared.scripted.Test.{Test}
use Rattle.mutator_ops.specs.declared.mutant.Mutant.{Mutant}
use Rattle.mutator_ops.specs.declared.mutant.Verdict.{Verdict}
use Rattle.suite_runs.specs.Below.{Allowed, ClassFiles}
use Rattle.report_pieces.specs.FileKey.{mutant_keys, test_keys}
use Rattle.report_pieces.specs.Groups.{groups_of}
use Rattle.report_pieces.specs.declared.input.ReportInput.{ReportInput}
use Rattle.record_rules.specs.declared.record.RunRecord.{RunRecord}
use Rattle.suite_runs.specs.Below.{JobAnswer}
use Rattle.suite_runs.specs.Below.{JobRefusal}
use Rattle.mutest_engine.specs.Jobs.{job_made}
use Rattle.mutest_engine.specs.NamedJobs.{NamedSuite, named_answer, named_reused}
use Rattle.mutest_engine.specs.NamedJobs.{scratch_answer, scratch_reused}
use Rattle.mutest_engine.specs.Steps.{and_then}
use Rattle.mutest_engine.specs.declared.job.JobMade.{JobMade}
use Rattle.mutest_engine.specs.declared.refusal.Refusal.{Refusal}
use Rattle.mutest_engine.specs.declared.reported.ReportFiles.{ReportFiles}
use Rattle.mutest_engine.specs.declared.reported.Reported.{Reported}

-- Each mutant and each test stands in the file of its class. Sources are read behind the runs.
abbrev pub input_of : ClassFiles → List Test → List Mutant → List Verdict → ReportInput
input_of files ts ms verdicts = record {
  mutants = ms;
  verdicts = verdicts;
  tests = ts;
  files = groups_of (mutant_keys files ms);
  test_files = groups_of (test_keys files ts);
  sources = [];
}

-- Files of a report are those of these mutants and tests.
abbrev pub AreFilesOf : ClassFiles → List Test → List Mutant → ReportFiles → Type 0
AreFilesOf files ts ms found =
    (found.mutants ≡ groups_of (mutant_keys files ms)) × (found.tests ≡ groups_of (test_keys files ts))

-- ---- of a job

-- The report's input, the bytes of the new history, and how many of its records old ones stand for.
abbrev pub reported : NamedSuite → JobMade → Reported
reported s made = record {
  input = input_of s.files s.tests s.mutants made.verdicts;
  history = made.history;
  reused = made.reused;
}

-- By the answer of the job, and how many of its records old ones stand for.
abbrev pub reported_with : NamedSuite → ℕ → Result JobAnswer JobRefusal → Result Reported Refusal
reported_with s reused answer =
    and_then (job_made s.tests reused answer) (λ made. Ok (reported s made))

-- By what is known of all runs; of each mutant all tests that detect it are asked for, or the
-- first.
abbrev pub known_reported : Bool → Allowed → NamedSuite → List RunRecord → Result Reported Refusal
known_reported all a s old =
    reported_with s (named_reused all a s old) (named_answer all a s old)

-- By running every test on every mutant from scratch. Old records have only to do with how many of
-- the new ones they stand for.
abbrev pub every_reported : Bool → Allowed → NamedSuite → List RunRecord → Result Reported Refusal
every_reported all a s old = reported_with s (scratch_reused all a s old) (scratch_answer all a s)
