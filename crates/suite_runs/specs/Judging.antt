-- Verdicts by number (this project's own).
use Rattle.std.specs.Prelude.{ℕ, suc, Bool, true, false, List, [], ◌∷◌, if◌then◌else◌}
use Rattle.std.specs.Prelude.{slice_index_or}
use Rattle.mutator_ops.specs.declared.mutant.State.{State}
use Rattle.mutator_ops.specs.declared.mutant.State.TheVariants as state
use Rattle.mutator_ops.specs.declared.mutant.Verdict.{Verdict}
use Rattle.suite_workers.specs.Below.{not_viable}
use Rattle.job_answers.specs.Answers.{verdict_with}

-- The state of a mutant that some test covers, or none, by those that detect it.
abbrev pub state_by : Bool → List (ℕ × State) → State
state_by false found = state.NoCoverage
state_by true [] = state.Survived
state_by true (d ∷ ds) = d.1

abbrev pub verdict_at : Bool → List ℕ → List (ℕ × State) → Verdict
verdict_at viable covering found = if viable then verdict_with covering found else not_viable

-- The verdicts on mutants that are numbered from here on.
abbrev pub verdicts_from :
    List Bool → List (List ℕ) → ℕ → List (List (ℕ × State)) → List Verdict
verdicts_from viable covering k [] = []
verdicts_from viable covering k (found ∷ others) =
    verdict_at (slice_index_or viable k false) (slice_index_or covering k []) found
    ∷ verdicts_from viable covering (suc k) others
