-- The cells of mutants with their covering tests, by number (this project's own).
use Rattle.std.specs.Prelude.{◌≡◌, ℕ, suc, List, [], ◌∷◌, ◌++◌, Bool, length, replicate}
use Rattle.job_rules.specs.Gathered.{flat}
use Rattle.worker_gate.specs.declared.ends.JobCells.{JobCells}

-- The mutant of each cell: for each its number, as often as it has tests.
abbrev pub mutants_from : ℕ → List (List ℕ) → List ℕ
mutants_from k [] = []
mutants_from k (tests ∷ covering) = replicate (length tests) k ++ mutants_from (suc k) covering

pub record AreListed (covering : List (List ℕ)) (all : Bool) (cells : JobCells) : Type 0 where
  pub mutants : cells.mutants ≡ mutants_from 0 covering
  pub tests : cells.tests ≡ flat covering
  pub count : cells.count ≡ length covering
  pub all_is : cells.all ≡ all
