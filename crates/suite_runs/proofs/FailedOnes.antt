-- The tests that don't pass, one more after the other.
use Rattle.std.proofs.Common.{◌≡◌, ◌∙◌, ℕ, zero, suc, ◌+◌, ◌<◌, Bool, true, false, List, [], ◌∷◌, ◌++◌, length, map, take, get_or, Option, Some, None, refl, sym, ap, ap₂, append_assoc, arith}
use Rattle.std.specs.List.{flat_map, enumerate_from}
use Rattle.std.proofs.lemmas.List.{append-nil, map-append, length-map, length-take-le, take_more}
use Rattle.std.proofs.lemmas.List.Concat.{flat_map-cons}
use Rattle.class_model.specs.declared.outcome.Outcome.{Outcome}
use Rattle.class_model.specs.declared.outcome.Outcome.TheVariants as outcome
use Rattle.suite_workers.specs.Below.{detected_by}
use Rattle.record_rules.specs.declared.record.RunRecord.{RunRecord}
use Rattle.suite_workers.specs.Said.{known_record}
use Rattle.suite_workers.specs.declared.said.KnownRun.{KnownRun}
use Rattle.job_answers.specs.declared.refusal.FailedTest.{FailedTest}
use Rattle.job_answers.specs.Answers.{unless_passed}
use Rattle.suite_runs.specs.Failing.{is_passed, outcome_by, failed_from, failed_among}

pub passes : (n : ℕ) (o : Outcome) → is_passed o ≡ true → unless_passed n o ≡ []
passes n outcome.Passed e = refl
passes n (outcome.Failed c) e = absurd cc
passes n outcome.TimedOut e = absurd cc
passes n outcome.MemoryOut e = absurd cc

pub fails : (n : ℕ) (o : Outcome) → is_passed o ≡ false → unless_passed n o ≡ record { test = n; outcome = o } ∷ []
fails n outcome.Passed e = absurd cc
fails n (outcome.Failed c) e = refl
fails n outcome.TimedOut e = refl
fails n outcome.MemoryOut e = refl

pub outcome_said : (o : Outcome) → outcome_by (detected_by o) ≡ o
outcome_said outcome.Passed = refl
outcome_said (outcome.Failed c) = refl
outcome_said outcome.TimedOut = refl
outcome_said outcome.MemoryOut = refl

failed_push : (n : ℕ) (rs : List RunRecord) (r : RunRecord) → failed_from n (rs ++ r ∷ []) ≡ failed_from n rs ++ unless_passed (n + length rs) r.outcome
failed_push n [] r =
    let none : n ≡ n + 0 = omega arith in
    append-nil (unless_passed n r.outcome) ∙ ap (λ (k : ℕ). unless_passed k r.outcome) none
failed_push n (x ∷ rs) r =
    let next : suc n + length rs ≡ n + suc (length rs) = omega arith in
    ap (λ (fs : List FailedTest). unless_passed n x.outcome ++ fs) (failed_push (suc n) rs r ∙ ap (λ (k : ℕ). failed_from (suc n) rs ++ unless_passed k r.outcome) next)
    ∙ sym (append_assoc (unless_passed n x.outcome) (failed_from (suc n) rs) (unless_passed (n + suc (length rs)) r.outcome))

-- one run more
pub failed_more : (runs : List KnownRun) (i : ℕ) (run : KnownRun) (o : Outcome) (failed more : List FailedTest) → i < length runs → run ≡ get_or runs i run → o ≡ (known_record run).outcome → failed ≡ failed_among (map known_record (take i runs)) → more ≡ failed ++ unless_passed i o
    → more ≡ failed_among (map known_record (take (i + 1) runs))
failed_more runs i run o failed more lt is said before push =
    let rs = map known_record (take i runs) in
    let long : length rs ≡ i = length-map (take i runs) known_record ∙ length-take-le i runs (omega (arith, lt)) in
    let at : 0 + length rs ≡ i = omega (arith, long) in
    let next : map known_record (take (i + 1) runs) ≡ rs ++ known_record run ∷ [] =
    ap (map known_record) (take_more runs i run lt) ∙ map-append known_record (take i runs) (get_or runs i run ∷ []) ∙ ap (λ (k : KnownRun). rs ++ known_record k ∷ []) (sym is) in
    push ∙ ap₂ (λ (fs : List FailedTest) (x : Outcome). fs ++ unless_passed i x) before said
    ∙ ap (λ (k : ℕ). failed_among rs ++ unless_passed k (known_record run).outcome) (sym at)
    ∙ sym (failed_push 0 rs (known_record run)) ∙ ap failed_among (sym next)
