-- Verdicts by number are those of a suite's job.
use Rattle.std.proofs.Common.{◌≡◌, ◌∙◌, ℕ, zero, suc, ◌+◌, ◌<◌, Bool, true, false, List, [], ◌∷◌, ◌++◌, length, map, get_or, Option, Some, None, refl, sym, ap, ap₂, arith}
use Rattle.std.specs.Prelude.{is_some, slice_index_or}
use Rattle.std.specs.List.{flat_map, enumerate_from}
use Rattle.std.specs.Option.{option_map_or}
use Rattle.std.proofs.lemmas.List.Concat.{flat_map-cons}
use Rattle.class_model.specs.declared.class.Class.{Class}
use Rattle.class_table.specs.declared.scripted.Test.{Test}
use Rattle.mutator_ops.specs.declared.mutant.Mutant.{Mutant}
use Rattle.mutator_ops.specs.declared.mutant.State.{State}
use Rattle.mutator_ops.specs.declared.mutant.Verdict.{Verdict}
use Rattle.suite_workers.specs.Below.{not_viable}
use Rattle.record_rules.specs.declared.record.RunRecord.{RunRecord}
use Rattle.job_rules.specs.Tried.{Tried, known, detections}
use Rattle.suite_workers.specs.Below.{Allowed, Suite, says, covering, original_tried, viable_file, mutant_tried, mutant_runs}
use Rattle.suite_workers.specs.Jobs.{covering_numbers}
use Rattle.job_answers.specs.declared.refusal.FailedTest.{FailedTest}
use Rattle.job_answers.specs.Answers.{failed_by, unless_passed, verdict_in, verdict_of_runs, verdict_with}
use Rattle.suite_runs.specs.Failing.{failed_from}
use Rattle.suite_runs.specs.Judging.{verdict_at, verdicts_from}

module _ (a : Allowed) (s : Suite) (old : List RunRecord) where
  -- ---- tests that failed

  pub failed_alike : (n : ℕ) (ts : List Test) → failed_from n (map known (map (original_tried a s old) (enumerate_from n ts))) ≡ flat_map failed_by (map (original_tried a s old) (enumerate_from n ts))
  failed_alike n [] = refl
  failed_alike n (t ∷ ts) =
      let tried = original_tried a s old (n, t) in
      let next : suc n ≡ n + 1 = omega arith in
      ap (λ (fs : List FailedTest). failed_by tried ++ fs) (ap (λ (k : ℕ). failed_from k (map known (map (original_tried a s old) (enumerate_from (n + 1) ts)))) next ∙ failed_alike (n + 1) ts)
      ∙ sym (flat_map-cons failed_by tried (map (original_tried a s old) (enumerate_from (n + 1) ts)))

  -- ---- verdicts

  tests_alike : (made : Class × List ℕ) (ts : List (ℕ × Test)) → map (λ (t : ℕ × Test). t.0) ts ≡ map (λ (t : Tried RunRecord). t.test) (map (mutant_tried a s old made) ts)
  tests_alike made [] = refl
  tests_alike made (t ∷ ts) = ap (λ (ks : List ℕ). t.0 ∷ ks) (tests_alike made ts)

  verdict_case : (all : Bool) (m : Mutant) (o : Option (Class × List ℕ))
      → verdict_at (is_some o) (option_map_or (λ (made : Class × List ℕ). map (λ (t : ℕ × Test). t.0) (covering a s old m)) o []) (detections says all (option_map_or (λ (made : Class × List ℕ). map (mutant_tried a s old made) (covering a s old m)) o []))
      ≡ option_map_or (λ (made : Class × List ℕ). verdict_of_runs all (option_map_or (λ (other : Class × List ℕ). map (mutant_tried a s old other) (covering a s old m)) o [])) o not_viable
  verdict_case all m None = refl
  verdict_case all m (Some made) = ap (λ (ks : List ℕ). verdict_with ks (detections says all (map (mutant_tried a s old made) (covering a s old m)))) (tests_alike made (covering a s old m))

  verdict_alike : (all : Bool) (m : Mutant) → verdict_at (is_some (viable_file s.program m)) (covering_numbers a s old m) (detections says all (mutant_runs a s old m)) ≡ verdict_in a s old all m
  verdict_alike all m = verdict_case all m (viable_file s.program m)

  -- What is told of the mutants that are numbered from here on.
  abbrev AreTold : List Bool → List (List ℕ) → ℕ → List Mutant → Type 0
  AreTold viable covered k ms =
      (i : ℕ) (m : Mutant) → i < length ms →
      (slice_index_or viable (k + i) false ≡ is_some (viable_file s.program (get_or ms i m)))
      × (slice_index_or covered (k + i) [] ≡ covering_numbers a s old (get_or ms i m))

  told_rest : (viable : List Bool) (covered : List (List ℕ)) (k : ℕ) (m : Mutant) (ms : List Mutant) → AreTold viable covered k (m ∷ ms) → AreTold viable covered (suc k) ms
  told_rest viable covered k m ms h i d lt =
      let next : suc k + i ≡ k + suc i = omega arith in
      let at = h (suc i) d (omega (arith, lt)) in
      (ap (λ (n : ℕ). slice_index_or viable n false) next ∙ at.0, ap (λ (n : ℕ). slice_index_or covered n []) next ∙ at.1)

  pub verdicts_alike : (all : Bool) (viable : List Bool) (covered : List (List ℕ)) (k : ℕ) (ms : List Mutant) → AreTold viable covered k ms
      → verdicts_from viable covered k (map (detections says all) (map (mutant_runs a s old) ms)) ≡ map (verdict_in a s old all) ms
  verdicts_alike all viable covered k [] h = refl
  verdicts_alike all viable covered k (m ∷ ms) h =
      let none : k ≡ k + 0 = omega arith in
      let at = h 0 m (omega arith) in
      let first : slice_index_or viable k false ≡ is_some (viable_file s.program m) = ap (λ (n : ℕ). slice_index_or viable n false) none ∙ at.0 in
      let tests : slice_index_or covered k [] ≡ covering_numbers a s old m = ap (λ (n : ℕ). slice_index_or covered n []) none ∙ at.1 in
      ap₂ (λ (v : Verdict) (vs : List Verdict). v ∷ vs)
      (ap₂ (λ (b : Bool) (ks : List ℕ). verdict_at b ks (detections says all (mutant_runs a s old m))) first tests ∙ verdict_alike all m)
      (verdicts_alike all viable covered (suc k) ms (told_rest viable covered k m ms h))
