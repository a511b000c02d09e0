-- The tests that cover mutants, by number (this project's own).
use Rattle.std.specs.Prelude.{◌≡◌, ℕ, Bool, true, false, List, [], length, map, nat_lt, sum_by}
use Rattle.std.specs.Prelude.{if◌then◌else◌, Result, Ok, Err}
use Rattle.class_link.specs.Info.{Info}
use Rattle.line_coverage.specs.Coverage.{Covered}
use Rattle.mutator_ops.specs.declared.mutant.Mutant.{Mutant}
use Rattle.suite_workers.specs.Below.{covering_at}
use Rattle.job_answers.specs.declared.refusal.JobRefusal.TheVariants.{TooManyCells}
use Rattle.job_answers.specs.Answers.{most_cells}
use Rattle.suite_runs.specs.declared.fault.JobFault.{JobFault}
use Rattle.suite_runs.specs.declared.fault.JobFault.TheVariants as fault

module _ (p : List Info) (cover : Covered) where
  -- Those that reach a mutant's class and line; none where it isn't viable.
  abbrev pub numbers_of : Mutant × Bool → List ℕ
  numbers_of m = if m.1 then covering_at p cover m.0 else []

  abbrev pub count_all : List (Mutant × Bool) → ℕ
  count_all ms = sum_by (λ m. length (numbers_of m)) ms

  -- Those of each, or there are too many.
  abbrev pub CoversFew : List (Mutant × Bool) → Result (List (List ℕ)) JobFault → Type 0
  CoversFew ms (Ok covering) =
      (nat_lt most_cells (count_all ms) ≡ false) × (covering ≡ map numbers_of ms)
  CoversFew ms (Err (fault.Refused refusal)) =
      (nat_lt most_cells (count_all ms) ≡ true) × (refusal ≡ TooManyCells)
  CoversFew ms (Err fault.Unwritable) = ⊥
  CoversFew ms (Err fault.Memory) = Unit {0}
