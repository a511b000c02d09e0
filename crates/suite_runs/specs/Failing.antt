-- The tests that don't pass on the program as it is, by number (this project's own).
use Rattle.std.specs.Prelude.{ℕ, suc, Bool, true, false, List, [], ◌∷◌, ◌++◌, Option, Some, None}
use Rattle.class_model.specs.declared.outcome.Outcome.{Outcome}
use Rattle.class_model.specs.declared.outcome.Outcome.TheVariants as outcome
use Rattle.mutator_ops.specs.declared.mutant.State.{State}
use Rattle.mutator_ops.specs.declared.mutant.State.TheVariants as state
use Rattle.record_rules.specs.declared.record.RunRecord.{RunRecord}
use Rattle.job_answers.specs.declared.refusal.FailedTest.{FailedTest}
use Rattle.job_answers.specs.Answers.{unless_passed}

-- How a run ended that gives this state to a mutant, or none.
abbrev pub outcome_by : Option State → Outcome
outcome_by None = outcome.Passed
outcome_by (Some (state.Killed cause)) = outcome.Failed cause
outcome_by (Some state.TimedOut) = outcome.TimedOut
outcome_by (Some other) = outcome.MemoryOut

abbrev pub is_passed : Outcome → Bool
is_passed outcome.Passed = true
is_passed other = false

-- By the records of the tests' runs, which are numbered from here on.
abbrev pub failed_from : ℕ → List RunRecord → List FailedTest
failed_from n [] = []
failed_from n (r ∷ rs) = unless_passed n r.outcome ++ failed_from (suc n) rs

abbrev pub failed_among : List RunRecord → List FailedTest
failed_among rs = failed_from 0 rs
