-- What true old records leave as it is.
use Rattle.std.proofs.Common.{◌≡◌, ◌∙◌, ℕ, Bool, List, [], ◌∷◌, ◌++◌, ◌+◌, length, map, Ok, refl, sym, ap, ap₂}
use Rattle.std.specs.Prelude.{sum_by}
use Rattle.std.specs.List.{flat_map}
use Rattle.std.specs.Option.{option_map_or}
use Rattle.std.proofs.lemmas.List.{length-map}
use Rattle.std.proofs.lemmas.List.Concat.{flat_map-cons}
use Rattle.std.proofs.lemmas.List.Sums.{sum_by-cons}
use Rattle.class_model.specs.declared.class.Class.{Class}
use Rattle.class_table.specs.declared.scripted.Test.{Test}
use Rattle.mutator_ops.specs.declared.mutant.Mutant.{Mutant}
use Rattle.mutator_ops.specs.declared.mutant.Verdict.{Verdict}
use Rattle.suite_jobs.specs.Below.{not_viable}
use Rattle.record_rules.specs.declared.record.RunRecord.{RunRecord}
use Rattle.job_rules.specs.Tried.{Tried, known, detections}
use Rattle.suite_jobs.specs.Jobs.{Allowed, Suite, says, numbered, original_tried, viable_file, mutant_runs, job_runs}
use Rattle.suite_jobs.specs.Laws.{ReuseChangesNoAnswer}
use Rattle.job_answers.specs.declared.refusal.FailedTest.{FailedTest}
use Rattle.job_answers.specs.Answers.{verdict_with, verdict_of_runs, verdict_in, unless_passed, failed_by, failed_tests, cell_total, unless_failed, unless_many, answer_by, job_answer}
use Rattle.job_answers.specs.Laws.{TrueRecordsChangeNothing}

abbrev Runs : Type 0
Runs = List (Tried RunRecord)

abbrev tests_in : Runs → List ℕ
tests_in ts = map (λ (t : Tried RunRecord). t.test) ts

failed_alike : (ts us : Runs) → tests_in ts ≡ tests_in us → map known ts ≡ map known us → flat_map failed_by ts ≡ flat_map failed_by us
failed_alike [] [] e f = refl
failed_alike [] (u ∷ us) e f = absurd cc
failed_alike (t ∷ ts) [] e f = absurd cc
failed_alike (t ∷ ts) (u ∷ us) e f =
    let test : t.test ≡ u.test = cc in
    let kept : known t ≡ known u = cc in
    let tests : tests_in ts ≡ tests_in us = cc in
    let knowns : map known ts ≡ map known us = cc in
    flat_map-cons failed_by t ts
    ∙ ap₂ (λ (xs ys : List FailedTest). xs ++ ys) (ap₂ (λ (k : ℕ) (r : RunRecord). unless_passed k r.outcome) test kept) (failed_alike ts us tests knowns)
    ∙ sym (flat_map-cons failed_by u us)

total_alike : (mutants others : List Runs) → map tests_in mutants ≡ map tests_in others → sum_by length mutants ≡ sum_by length others
total_alike [] [] e = refl
total_alike [] (us ∷ others) e = absurd cc
total_alike (ts ∷ mutants) [] e = absurd cc
total_alike (ts ∷ mutants) (us ∷ others) e =
    let head : tests_in ts ≡ tests_in us = cc in
    let tail : map tests_in mutants ≡ map tests_in others = cc in
    let long : length ts ≡ length us = sym (length-map ts (λ (t : Tried RunRecord). t.test)) ∙ ap length head ∙ length-map us (λ (t : Tried RunRecord). t.test) in
    sum_by-cons length ts mutants ∙ ap₂ (λ (m n : ℕ). m + n) long (total_alike mutants others tail) ∙ sym (sum_by-cons length us others)

verdict_alike : (s : Suite) (all : Bool) (m : Mutant) (ts us : Runs) → tests_in ts ≡ tests_in us → detections says all ts ≡ detections says all us
    → option_map_or (λ (made : Class × List ℕ). verdict_of_runs all ts) (viable_file s.program m) not_viable ≡ option_map_or (λ (made : Class × List ℕ). verdict_of_runs all us) (viable_file s.program m) not_viable
verdict_alike s all m ts us e f = ap (λ (v : Verdict). option_map_or (λ (made : Class × List ℕ). v) (viable_file s.program m) not_viable) (ap₂ verdict_with e f)

verdicts_alike : (a : Allowed) (s : Suite) (old : List RunRecord) (all : Bool) (ms : List Mutant) → map tests_in (map (mutant_runs a s old) ms) ≡ map tests_in (map (mutant_runs a s []) ms)
    → map (detections says all) (map (mutant_runs a s old) ms) ≡ map (detections says all) (map (mutant_runs a s []) ms) → map (verdict_in a s old all) ms ≡ map (verdict_in a s [] all) ms
verdicts_alike a s old all [] e f = refl
verdicts_alike a s old all (m ∷ ms) e f =
    let head : tests_in (mutant_runs a s old m) ≡ tests_in (mutant_runs a s [] m) = cc in
    let tail : map tests_in (map (mutant_runs a s old) ms) ≡ map tests_in (map (mutant_runs a s []) ms) = cc in
    let first : detections says all (mutant_runs a s old m) ≡ detections says all (mutant_runs a s [] m) = cc in
    let others : map (detections says all) (map (mutant_runs a s old) ms) ≡ map (detections says all) (map (mutant_runs a s []) ms) = cc in
    ap₂ (λ (v : Verdict) (vs : List Verdict). v ∷ vs) (verdict_alike s all m (mutant_runs a s old m) (mutant_runs a s [] m) head first) (verdicts_alike a s old all ms tail others)

pub change_nothing : ReuseChangesNoAnswer → TrueRecordsChangeNothing
unfolding job_runs job_answer
change_nothing law a s old all h true_old =
    let alike = law a s old h true_old in
    let failed : failed_tests (job_runs a s old) ≡ failed_tests (job_runs a s []) = failed_alike (job_runs a s old).originals (job_runs a s []).originals (same_tests (numbered s)) alike.originals in
    let total : cell_total (job_runs a s old) ≡ cell_total (job_runs a s []) = total_alike (job_runs a s old).mutants (job_runs a s []).mutants alike.covering in
    let verdicts = verdicts_alike a s old all s.mutants alike.covering (alike.detections all) in
    let records = alike.records all in
    let answer : answer_by a s old all ≡ answer_by a s [] all = λ i. record { verdicts = verdicts i; records = records i } in
    λ i. unless_failed (failed i) (unless_many (total i) (Ok (answer i)))
  where
    same_tests : (ts : List (ℕ × Test)) → tests_in (map (original_tried a s old) ts) ≡ tests_in (map (original_tried a s []) ts)
    same_tests [] = refl
    same_tests (t ∷ ts) = ap (λ (ns : List ℕ). t.0 ∷ ns) (same_tests ts)
