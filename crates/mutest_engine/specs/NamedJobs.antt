-- The job of a suite by the names of its classes: the runs of its tests on its program and on its
-- mutants, each with what old records have of it; and what is known of all of them says. It is the
-- job of `suite_jobs` and its answer of `job_answers`, which speak of classes by number (this
-- project's own).
use Rattle.std.specs.Prelude.{ℕ, Bool, true, false, List, [], ◌∷◌, map, filter, Option, Some, None}
use Rattle.std.specs.Prelude.{is_some, if◌then◌else◌, option_and_then, Result, Ok}
use Rattle.std.specs.List.{enumerate_from, flat_map}
use Rattle.std.specs.Option.{option_map_or}
use Rattle.class_model.specs.declared.class.Class.{Class}
use Rattle.program_rules.specs.Programs.{Look}
use Rattle.machine_rules.specs.Runs.{Ran, limit_of, run_of}
use Rattle.class_table.specs.Table.{look}
use Rattle.class_table.specs.declared.scripted.Test.{Test}
use Rattle.jvm_world.specs.View.{test_of}
use Rattle.type_rules.specs.Faults.{class_fault}
use Rattle.mutator_ops.specs.declared.mutant.Mutant.{Mutant}
use Rattle.mutator_ops.specs.declared.mutant.Verdict.{Verdict}
use Rattle.mutant_apply.specs.Edited.{applied}
use Rattle.suite_runs.specs.Below.{Allowed, Suite, tried_on, says, has_reached, asked_on, bytes_of, put_file, ClassFiles, files_of, with_class, timed, reaches, detected, not_viable, verdict_of}
use Rattle.record_rules.specs.Profiles.{Held}
use Rattle.record_rules.specs.declared.record.RunRecord.{RunRecord}
use Rattle.record_rules.specs.Histories.{same_record, new_records, reused}
use Rattle.record_rules.specs.Jobs.{Job, Trial}
use Rattle.record_rules.specs.Records.{Asked, run}
use Rattle.job_rules.specs.Tried.{Tried, JobRuns, known, need, records_once, reused_among}
use Rattle.suite_runs.specs.Below.{JobAnswer, JobCost, verdict_of_runs, failed_tests, cell_total}
use Rattle.suite_runs.specs.Below.{unless_failed, unless_many, cost_by, asked_cells, asked_cost}
use Rattle.suite_runs.specs.Below.{need_of, verdict_by_every}
use Rattle.suite_runs.specs.Below.{JobRefusal}

-- ---- a suite

-- The program and the class files by name, with their bytes; the tests and the mutants.
pub record NamedSuite : Type 0 where
  pub look : Look
  pub files : ClassFiles
  pub held : Held
  pub tests : List Test
  pub mutants : List Mutant

-- A suite of which classes have numbers, by their names.
abbrev pub named : Suite → NamedSuite
named s = record {
  look = look s.program;
  files = files_of s.program;
  held = bytes_of s.files;
  tests = s.tests;
  mutants = s.mutants;
}

-- ---- the runs on the program as it is

module _ (a : Allowed) (s : NamedSuite) (old : List RunRecord) where
  abbrev pub original_tried : ℕ × Test → Tried RunRecord
  original_tried t = tried_on old t.0 (asked_on s.look s.held t.1 a.limits a.steps)

  -- The tests that cover a mutant: what is known of their runs reached its line.
  abbrev pub covering : Mutant → List (ℕ × Test)
  covering m = filter (λ t. has_reached m (known (original_tried t))) (enumerate_from 0 s.tests)

-- ---- the runs on mutants

-- A class file with its bytes, unless the class of the mutant's name is refused in the program with
-- it.
abbrev pub unless_refused : Look → Mutant → Class × List ℕ → Option (Class × List ℕ)
unless_refused p m made =
    if is_some (class_fault (with_class made.0 p) m.class) then None else Some made

-- The class file that the edit of a viable mutant makes.
abbrev pub viable_file : NamedSuite → Mutant → Option (Class × List ℕ)
viable_file s m =
    option_and_then (unless_refused s.look m)
    (option_and_then (λ c. applied c m.edit) (s.files m.class))

module _ (a : Allowed) (s : NamedSuite) (old : List RunRecord) where
  -- The run of a test on a mutant may take steps by what is known of its run on the program.
  abbrev pub mutant_tried : Class × List ℕ → ℕ × Test → Tried RunRecord
  mutant_tried made t =
      tried_on old t.0
      (asked_on (with_class made.0 s.look) (put_file made s.held) t.1 a.limits
      (limit_of (known (original_tried a s old t)).steps))

  -- Those of the tests that cover it. None cover one that isn't viable.
  abbrev pub mutant_runs : Mutant → List (Tried RunRecord)
  mutant_runs m =
      option_map_or (λ made. map (mutant_tried made) (covering a s old m)) (viable_file s m) []

  -- All runs of the job.
  unfoldable pub named_runs : JobRuns RunRecord
  named_runs = record {
    originals = map (original_tried a s old) (enumerate_from 0 s.tests);
    mutants = map mutant_runs s.mutants;
  }

-- ---- the answer, by the tests that detect a mutant: all of them, or the first

module _ (all : Bool) (a : Allowed) (s : NamedSuite) (old : List RunRecord) where
  abbrev pub verdict_in : Mutant → Verdict
  verdict_in m =
      option_map_or (λ made. verdict_of_runs all (mutant_runs a s old m)) (viable_file s m)
      not_viable

  -- The verdict on each mutant, and the records of the runs that are needed, equal ones once.
  abbrev pub answer_by : JobAnswer
  answer_by = record {
    verdicts = map verdict_in s.mutants;
    records = records_once same_record (need says all (named_runs a s old));
  }

  unfoldable pub named_answer : Result JobAnswer JobRefusal
  named_answer =
      unless_failed (failed_tests (named_runs a s old))
      (unless_many (cell_total (named_runs a s old)) (Ok answer_by))

  -- How many of the records old ones stand for, and what the job costs.
  unfoldable pub named_reused : ℕ
  named_reused = reused_among same_record (need says all (named_runs a s old))

  unfoldable pub named_cost : JobCost
  named_cost = cost_by all (named_runs a s old) named_answer

-- ---- the job by the runs themselves

module _ (a : Allowed) (s : NamedSuite) where
  -- The steps of a test's run on the program as it is.
  abbrev pub original_steps : Test → ℕ
  original_steps t = (run_of s.look (test_of t) a.limits a.steps).steps

  -- What a mutant asks of all tests: their runs on it, each under the limit that the test's run on
  -- the program gives.
  abbrev pub mutant_asked : Class × List ℕ → Test → Asked
  mutant_asked made t =
      asked_on (with_class made.0 s.look) (put_file made s.held) t a.limits
      (limit_of (original_steps t))

  abbrev pub trial_of : Mutant → Class × List ℕ → Trial
  trial_of m made = record {
    runs = map (mutant_asked made) s.tests;
    reaches = reaches m;
    detects = λ ran. is_some (detected ran.ending);
  }

  -- One that isn't viable asks nothing.
  abbrev pub trials_of : Mutant → List Trial
  trials_of m = option_map_or (λ made. trial_of m made ∷ []) (viable_file s m) []

  unfoldable pub named_asked : Job
  named_asked = record {
    originals = map (λ t. asked_on s.look s.held t a.limits a.steps) s.tests;
    trials = flat_map trials_of s.mutants;
  }

-- ---- from scratch

-- The runs of every test on a mutant, by the tests' numbers.
abbrev pub every_run : Allowed → NamedSuite → Class × List ℕ → List (ℕ × Ran)
every_run a s made =
    map (λ t. (t.0, run (mutant_asked a s made t.1))) (enumerate_from 0 s.tests)

abbrev pub verdict_of_every : Allowed → NamedSuite → Mutant → Verdict
verdict_of_every a s m =
    option_map_or (λ made. verdict_by_every m (every_run a s made)) (viable_file s m) not_viable

-- The verdict on each mutant by a run of every test on it, where all that detect it are asked for,
-- or the first.
abbrev pub every_verdict : Bool → Allowed → NamedSuite → List Verdict
every_verdict false a s =
    map (verdict_of a.limits s.files s.look (timed s.tests (map (original_steps a s) s.tests)))
    s.mutants
every_verdict true a s = map (verdict_of_every a s) s.mutants

-- Those, and the records of the runs that are needed: of all tests on the program, and then for
-- each viable mutant of those whose runs on it reach its line, all or up to the first that detects
-- it.
abbrev pub every_answer : Bool → Allowed → NamedSuite → JobAnswer
every_answer all a s = record {
  verdicts = every_verdict all a s;
  records = new_records (need_of all (named_asked a s));
}

abbrev pub scratch_answer : Bool → Allowed → NamedSuite → Result JobAnswer JobRefusal
scratch_answer all a s =
    unless_failed (failed_tests (named_runs a s []))
    (unless_many (asked_cells (named_asked a s)) (Ok (every_answer all a s)))

-- How many of these records old ones stand for.
abbrev pub scratch_reused : Bool → Allowed → NamedSuite → List RunRecord → ℕ
scratch_reused all a s old = reused old (need_of all (named_asked a s))

-- The steps of the runs that old records lack; where the job is refused, of those on the program
-- as it is.
abbrev pub scratch_cost : Bool → Allowed → NamedSuite → List RunRecord → JobCost
scratch_cost all a s old = asked_cost all old (named_asked a s) (scratch_answer all a s)
