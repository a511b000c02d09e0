-- The runs that a job needs, and what they cost where old records are there (this project's own).
use Rattle.std.specs.Prelude.{ℕ, Bool, if◌then◌else◌, List, [], ◌∷◌, ◌++◌, filter, sum_by, Option}
use Rattle.std.specs.Prelude.{is_some}
use Rattle.std.specs.List.{flat_map}
use Rattle.std.specs.Option.{option_map, option_or}
use Rattle.machine_rules.specs.Runs.{Ran}
use Rattle.record_rules.specs.declared.record.RunRecord.{RunRecord}
use Rattle.record_rules.specs.Records.{Asked, run, record_of}
use Rattle.record_rules.specs.Matching.{first_match}

-- The record with another limit.
abbrev pub with_limit : ℕ → RunRecord → RunRecord
with_limit limit r = record r { limit = limit }

-- ---- one run

-- What a job has of a run: the first old record that matches, with the run's limit, and else the
-- record of the run, which then is made.
unfoldable pub end_of : List RunRecord → Asked → Option RunRecord
end_of old x = option_or (option_map (with_limit x.limit) (first_match old x)) (record_of x)

-- The steps that it takes: none where an old record matches.
unfoldable pub steps_of : List RunRecord → Asked → ℕ
steps_of old x = if is_some (first_match old x) then 0 else (run x).steps

-- ---- the runs of a mutant

-- A mutant's runs, one for each test in order, and what its runs are asked: whether one reaches its
-- line, and whether one detects it.
pub record Trial : Type 0 where
  pub runs : List Asked
  pub reaches : Ran → Bool
  pub detects : Ran → Bool

-- Those of the tests that cover it.
abbrev pub covering_runs : Trial → List Asked
covering_runs t = filter (λ x. t.reaches (run x)) t.runs

-- Runs up to the first that detects, with that one.
abbrev pub up_to : (Ran → Bool) → List Asked → List Asked
up_to detects [] = []
up_to detects (x ∷ xs) = x ∷ (if detects (run x) then [] else up_to detects xs)

abbrev pub needed_runs : Trial → List Asked
needed_runs t = up_to t.detects (covering_runs t)

-- ---- a job

-- The runs on the program as it is, and the viable mutants.
pub record Job : Type 0 where
  pub originals : List Asked
  pub trials : List Trial

-- The runs that are needed: the original ones, and then for each mutant those of its covering tests
-- up to the first that detects it.
unfoldable pub need : Job → List Asked
need j = j.originals ++ flat_map needed_runs j.trials

-- All that might be made: the same with all covering tests.
unfoldable pub all_runs : Job → List Asked
all_runs j = j.originals ++ flat_map covering_runs j.trials

-- The steps of runs that no old record matches.
abbrev pub cost : List RunRecord → List Asked → ℕ
cost old xs = sum_by (steps_of old) xs

abbrev pub NeedCost : List RunRecord → Job → ℕ
NeedCost old j = cost old (need j)

abbrev pub Cost : List RunRecord → Job → ℕ
Cost old j = cost old (all_runs j)
