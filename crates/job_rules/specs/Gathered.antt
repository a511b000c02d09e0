-- The ends of all cells put together, in the order of the cells (this project's own).
use Rattle.std.specs.Prelude.{ℕ, ◌+◌, List, [], ◌∷◌, ◌++◌, map, slice_set, Option, Some, None}
use Rattle.job_rules.specs.Ended.{Ended, cost_of_ends}

abbrev pub flat : {X : Type 0} → List (List X) → List X
flat [] = []
flat (xs ∷ lists) = xs ++ flat lists

-- each end at the number of its cell
abbrev pub put_all : {X : Type 0} → List (ℕ × X) → List (Option X) → List (Option X)
put_all [] places = places
put_all (p ∷ ps) places = put_all ps (slice_set places p.0 (Some p.1))

-- what the executed cells of all workers cost
abbrev pub cost_of_workers : {Rec : Type 0} → (Rec → ℕ) → List (List (ℕ × Ended Rec)) → ℕ
cost_of_workers steps [] = 0
cost_of_workers steps (es ∷ ends) =
    cost_of_ends steps (map (λ p. p.1) es) + cost_of_workers steps ends
