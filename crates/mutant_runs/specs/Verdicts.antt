-- What the tests say of a mutant (this project's own).
use Rattle.std.specs.Prelude.{ℕ, List, [], ◌∷◌, map, filter, Option, Some, None}
use Rattle.std.specs.List.{enumerate_from}
use Rattle.std.specs.Option.{option_map, option_map_or, option_or}
use Rattle.program_rules.specs.Programs.{Look}
use Rattle.machine_rules.specs.Runs.{Ran}
use Rattle.machine_rules.specs.declared.machine.Limits.{Limits}
use Rattle.mutator_ops.specs.declared.mutant.Mutant.{Mutant}
use Rattle.mutator_ops.specs.declared.mutant.State.{State}
use Rattle.mutator_ops.specs.declared.mutant.State.TheVariants as state
use Rattle.mutator_ops.specs.declared.mutant.Verdict.{Verdict}
use Rattle.mutant_runs.specs.Programs.{ClassFiles, viable}
use Rattle.mutant_runs.specs.Runs.{Timed, runs_on, reaches, detected}

-- The numbers of the tests whose runs reach the mutant's class and line.
abbrev pub covering : Mutant → List (ℕ × Ran) → List ℕ
covering m runs = map (λ r. r.0) (filter (λ r. reaches m r.1) runs)

-- The first test whose run detects the mutant, by its number, and the state that this run gives to
-- it.
abbrev pub killer : List (ℕ × Ran) → Option (ℕ × State)
killer [] = None
killer (r ∷ runs) = option_or (option_map (λ s. (r.0, s)) (detected r.1.ending)) (killer runs)

-- The verdict on a mutant whose line no test reaches.
abbrev pub not_covered : Verdict
not_covered = record { state = state.NoCoverage; killers = []; covering = [] }

-- The verdict by the tests that reach the mutant's line, and the first that detects it.
abbrev pub verdict_by : List ℕ → Option (ℕ × State) → Verdict
verdict_by [] first = not_covered
verdict_by (n ∷ ns) None = record { state = state.Survived; killers = []; covering = n ∷ ns }
verdict_by (n ∷ ns) (Some first) =
    record { state = first.1; killers = first.0 ∷ []; covering = n ∷ ns }

-- The verdict by the runs of all tests, which are numbered from 0.
unfoldable pub verdict_of_runs : Mutant → List Ran → Verdict
verdict_of_runs m runs = verdict_by (covering m (enumerate_from 0 runs)) (killer (enumerate_from 0 runs))

-- The verdict on a mutant whose edited class has no layout or is refused: no test is run.
abbrev pub not_viable : Verdict
not_viable = record { state = state.NonViable; killers = []; covering = [] }

-- The runs of all tests on a mutant that is viable.
abbrev pub mutant_runs : Limits → ClassFiles → Look → List Timed → Mutant → Option (List Ran)
mutant_runs q files p tests m = option_map (λ made. runs_on q made tests) (viable files p m)

unfoldable pub verdict_of : Limits → ClassFiles → Look → List Timed → Mutant → Verdict
verdict_of q files p tests m = option_map_or (verdict_of_runs m) (mutant_runs q files p tests m) not_viable
