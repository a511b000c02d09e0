-- The runs that a mutant needs: those of the tests that cover it, up to the first that detects it
-- (this project's own).
use Rattle.std.specs.Prelude.{ℕ, List, [], ◌∷◌, map, filter, flat_map, is_none, if◌then◌else◌, slice_get, sum_by}
use Rattle.std.specs.Option.{option_map_or}
use Rattle.program_rules.specs.Programs.{Look}
use Rattle.machine_rules.specs.Runs.{Ran}
use Rattle.machine_rules.specs.declared.machine.Limits.{Limits}
use Rattle.mutator_ops.specs.declared.mutant.Mutant.{Mutant}
use Rattle.mutator_ops.specs.declared.mutant.Verdict.{Verdict}
use Rattle.mutant_runs.specs.Programs.{ClassFiles, viable}
use Rattle.mutant_runs.specs.Runs.{Timed, mutant_run, steps_in, reaches, detected}
use Rattle.mutant_runs.specs.Verdicts.{killer, verdict_by, not_viable, mutant_runs}

-- Runs up to the first that detects the mutant, with that one.
abbrev pub up_to_detecting : List Ran → List Ran
up_to_detecting [] = []
up_to_detecting (r ∷ runs) =
    r ∷ (if is_none (detected r.ending) then up_to_detecting runs else [])

-- Of the runs of all tests those that reach the mutant's class and line, up to the first that
-- detects it.
abbrev pub needed_runs : Mutant → List Ran → List Ran
needed_runs m runs = up_to_detecting (filter (reaches m) runs)

-- The steps of the runs that a mutant needs, and of those that all need.
unfoldable pub needed_on : Limits → ClassFiles → Look → List Timed → Mutant → ℕ
needed_on q files p tests m =
    option_map_or (λ runs. steps_in (needed_runs m runs)) (mutant_runs q files p tests m) 0

abbrev pub needed_of_all : Limits → ClassFiles → Look → List Timed → List Mutant → ℕ
needed_of_all q files p tests mutants = sum_by (needed_on q files p tests) mutants

-- ---- by the numbers of tests

-- The test of a number, with that number, if there is one.
abbrev pub timed_at : List Timed → ℕ → List (ℕ × Timed)
timed_at tests k = option_map_or (λ t. (k, t) ∷ []) (slice_get tests k) []

-- The tests of these numbers.
abbrev pub picked : List Timed → List ℕ → List (ℕ × Timed)
picked tests ks = flat_map (timed_at tests) ks

-- Their runs on a program that a mutant is run as.
abbrev pub runs_picked : Limits → Look → List Timed → List ℕ → List (ℕ × Ran)
runs_picked q p tests ks =
    map (λ t. (t.0, mutant_run q p t.1.0 t.1.1)) (picked tests ks)

-- The steps of these runs up to the first that detects.
abbrev pub steps_picked : List (ℕ × Ran) → ℕ
steps_picked runs = steps_in (up_to_detecting (map (λ r. r.1) runs))

-- The verdict on a mutant by the tests of these numbers, which cover it, and the steps of the runs
-- that it takes.
unfoldable pub verdict_picked :
    Limits → ClassFiles → Look → List Timed → List ℕ → Mutant → Verdict
verdict_picked q files p tests ks m =
    option_map_or (λ made. verdict_by ks (killer (runs_picked q made tests ks))) (viable files p m)
    not_viable

unfoldable pub steps_by : Limits → ClassFiles → Look → List Timed → List ℕ → Mutant → ℕ
steps_by q files p tests ks m =
    option_map_or (λ made. steps_picked (runs_picked q made tests ks)) (viable files p m) 0
