-- Verdicts by number, one more after the other.
use Rattle.std.proofs.Common.{◌≡◌, ◌∙◌, ℕ, zero, suc, ◌+◌, ◌<◌, Bool, true, false, not, List, [], ◌∷◌, ◌++◌, length, map, Option, Some, None, IsTrue, refl, sym, ap, arith}
use Rattle.std.specs.Prelude.{slice_index_or}
use Rattle.mutator_ops.specs.declared.mutant.State.{State}
use Rattle.mutator_ops.specs.declared.mutant.Verdict.{Verdict}
use Rattle.job_answers.specs.Answers.{verdict_with}
use Rattle.suite_runs.specs.Judging.{state_by, verdict_at, verdicts_from}

-- the verdict by its parts
pub verdict_made : (cov : List ℕ) (found : List (ℕ × State)) (b : Bool) → (cov ≡ [] → b ≡ false) → (b ≡ false → cov ≡ []) → record { state = state_by b found; killers = map (λ d. d.0) found; covering = cov } ≡ verdict_with cov found
verdict_made [] found true f g = let e : true ≡ false = f refl in absurd cc
verdict_made [] found false f g = refl
verdict_made (n ∷ ns) found false f g = let e : n ∷ ns ≡ [] = g refl in absurd cc
verdict_made (n ∷ ns) [] true f g = refl
verdict_made (n ∷ ns) (d ∷ ds) true f g = refl

pub verdicts_push : (viable : List Bool) (covering : List (List ℕ)) (k : ℕ) (done : List (List (ℕ × State))) (one : List (ℕ × State)) → verdicts_from viable covering k (done ++ one ∷ []) ≡ verdicts_from viable covering k done ++ verdict_at (slice_index_or viable (k + length done) false) (slice_index_or covering (k + length done) []) one ∷ []
verdicts_push viable covering k [] one =
    let none : k ≡ k + 0 = omega arith in
    ap (λ (j : ℕ). verdict_at (slice_index_or viable j false) (slice_index_or covering j []) one ∷ []) none
verdicts_push viable covering k (x ∷ done) one =
    let next : suc k + length done ≡ k + suc (length done) = omega arith in
    ap (λ (vs : List Verdict). verdict_at (slice_index_or viable k false) (slice_index_or covering k []) x ∷ vs)
    (verdicts_push viable covering (suc k) done one
    ∙ ap (λ (j : ℕ). verdicts_from viable covering (suc k) done ++ verdict_at (slice_index_or viable j false) (slice_index_or covering j []) one ∷ []) next)
