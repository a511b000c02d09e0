-- What the calls answer of mutants, and how many steps they count (this project's own).
use Rattle.std.specs.Prelude.{◌≡◌, ℕ, Bool, List, [], map, Option, is_some, sum_by}
use Rattle.std.specs.Option.{option_map_or}
use Rattle.machine_rules.specs.Runs.{Ran}
use Rattle.machine_rules.specs.declared.machine.Limits.{Limits}
use Rattle.class_link.specs.Info.{Info}
use Rattle.class_table.specs.declared.scripted.Test.{Test}
use Rattle.class_table.specs.Table.{number_of, look}
use Rattle.line_coverage.specs.Coverage.{Covered, tests_at}
use Rattle.mutator_ops.specs.declared.mutant.Mutant.{Mutant}
use Rattle.mutator_ops.specs.declared.mutant.State.{State}
use Rattle.mutator_ops.specs.declared.mutant.Verdict.{Verdict}
use Rattle.mutant_runs.specs.Programs.{files_of, viable}
use Rattle.mutant_runs.specs.Runs.{mutant_run, timed}
use Rattle.mutant_runs.specs.Verdicts.{killer, verdict_by}
use Rattle.mutant_runs.specs.Needed.{runs_picked, steps_picked, verdict_picked, steps_by}

-- ---- on a program that a mutant is run as

-- The run of one test, and those of the tests of these numbers.
abbrev pub run_in : Limits → List Info → Test → ℕ → Ran
run_in q p test n = mutant_run q (look p) test n

abbrev pub runs_in : Limits → List Info → List Test → List ℕ → List ℕ → List (ℕ × Ran)
runs_in q p tests steps ks = runs_picked q (look p) (timed tests steps) ks

-- The first of these tests that detects the mutant.
abbrev pub IsKiller :
    Limits → List Info → List Test → List ℕ → List ℕ → Option (ℕ × State) → Type 0
IsKiller q p tests steps ks first = first ≡ killer (runs_in q p tests steps ks)

-- The verdict by these tests.
abbrev pub IsByRuns : Limits → List Info → List Test → List ℕ → List ℕ → Verdict → Type 0
IsByRuns q p tests steps ks v = v ≡ verdict_by ks (killer (runs_in q p tests steps ks))

-- The steps of their runs up to the first that detects the mutant.
abbrev pub steps_run : Limits → List Info → List Test → List ℕ → List ℕ → ℕ
steps_run q p tests steps ks = steps_picked (runs_in q p tests steps ks)

-- ---- on a program whose mutants these are

-- Whether one of them is viable, and whether each of them is.
abbrev pub TellsViable : List Info → Mutant → Bool → Type 0
TellsViable p m b = b ≡ is_some (viable (files_of p) (look p) m)

abbrev pub AreViable : List Info → List Mutant → List Bool → Type 0
AreViable p mutants bs = bs ≡ map (λ m. is_some (viable (files_of p) (look p) m)) mutants

-- The numbers of the tests that reach a mutant's class and line.
abbrev pub covering_at : List Info → Covered → Mutant → List ℕ
covering_at p cover m = option_map_or (λ id. tests_at cover id m.line) (number_of p m.class) []

abbrev pub AreCovering : List Info → Covered → Mutant → List ℕ → Type 0
AreCovering p cover m ks = ks ≡ covering_at p cover m

-- The verdict on one of them by these tests, and the steps of the runs that it takes.
abbrev pub IsVerdict :
    Limits → List Info → List Test → List ℕ → List ℕ → Mutant → Verdict → Type 0
IsVerdict q p tests steps ks m v =
    v ≡ verdict_picked q (files_of p) (look p) (timed tests steps) ks m

abbrev pub steps_for : Limits → List Info → List Test → List ℕ → List ℕ → Mutant → ℕ
steps_for q p tests steps ks m = steps_by q (files_of p) (look p) (timed tests steps) ks m

-- The same by the tests that reach its class and line.
abbrev pub IsVerdictBy :
    Limits → List Info → List Test → List ℕ → Covered → Mutant → Verdict → Type 0
IsVerdictBy q p tests steps cover m v =
    IsVerdict q p tests steps (covering_at p cover m) m v

abbrev pub steps_of : Limits → List Info → List Test → List ℕ → Covered → Mutant → ℕ
steps_of q p tests steps cover m = steps_for q p tests steps (covering_at p cover m) m

-- The verdict on each of them by the tests that cover it, and the steps of all these runs.
abbrev pub AreVerdicts :
    Limits → List Info → List Test → List ℕ → Covered → List Mutant → List Verdict → Type 0
AreVerdicts q p tests steps cover mutants vs =
    vs ≡ map
    (λ m. verdict_picked q (files_of p) (look p) (timed tests steps) (covering_at p cover m) m)
    mutants

abbrev pub steps_for_all :
    Limits → List Info → List Test → List ℕ → Covered → List Mutant → ℕ
steps_for_all q p tests steps cover mutants =
    sum_by (λ m. steps_by q (files_of p) (look p) (timed tests steps) (covering_at p cover m) m)
    mutants
