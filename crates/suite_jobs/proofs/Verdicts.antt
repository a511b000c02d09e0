-- The verdicts of a job are those by the runs of every test on every mutant.
use Rattle.std.proofs.Common.{◌≡◌, ◌∙◌, ℕ, false, List, [], ◌∷◌, map, Option, Some, None, refl, sym, ap, subst}
use Rattle.std.specs.Prelude.{is_some, if◌then◌else◌, option_and_then}
use Rattle.std.specs.List.{AllByRecursion}
use Rattle.std.specs.Option.{option_map, option_map_or, option_or}
use Rattle.std.proofs.lemmas.List.Elements.{recursion_from_All}
use Rattle.class_model.specs.declared.class.Class.{Class}
use Rattle.machine_rules.specs.Runs.{Ran, limit_of}
use Rattle.class_table.specs.declared.scripted.Test.{Test}
use Rattle.class_table.specs.Table.{look}
use Rattle.program_rules.specs.Programs.{Look}
use Rattle.type_rules.specs.Faults.{Placed, class_fault}
use Rattle.mutator_ops.specs.declared.mutant.Mutant.{Mutant}
use Rattle.mutator_ops.specs.declared.mutant.State.{State}
use Rattle.mutant_apply.specs.Edited.{applied}
use Rattle.suite_records.specs.Below.{SelectedAlwaysSuffice, original_run, edited_run, AllPass, selected, runs_of, timed_of, files_of, with_class, with_accepted, viable, mutant_run, runs_on, reaches, detected, verdict_by, not_viable, killer, verdict_of_runs, verdict_of}
use Rattle.record_rules.specs.declared.record.RunRecord.{RunRecord}
use Rattle.record_rules.specs.Records.{run}
use Rattle.reuse_laws.specs.Jobs.{AreTrue}
use Rattle.class_records.specs.Profile.{profile}
use Rattle.suite_records.specs.Suites.{original_asked, mutant_asked}
use Rattle.job_rules.specs.Tried.{Tried, known, saying, detections_in}
use Rattle.suite_jobs.specs.Jobs.{Suite, Allowed, IsOfFile, IsAccepted, made_by, says, has_reached, numbered, original_tried, covering, unless_refused, viable_file, mutant_tried, first_of, verdict_on, job_verdict}
use Rattle.suite_jobs.specs.Laws.{SaysRun, RecordsSayRuns, VerdictsAreOfAllTests}
use Rattle.suite_jobs.proofs.Lists.{all_filtered, filtered_alike}
use Rattle.suite_jobs.proofs.Own.{Given, IsGoodOne, good_ones, original_own, mutant_own, is_safe_mutant, whole, fits}

-- ---- the first detection

-- Of each test it is said what its run on the mutant says.
abbrev pub Said : (ℕ × Test → Tried RunRecord) → (ℕ × Test → Ran) → ℕ × Test → Type 0
Said tried ran t = ((tried t).test ≡ t.0) × (says (known (tried t)) ≡ detected (ran t).ending)

first_case : (n : ℕ) (rest : List (ℕ × Option State)) (others : Option (ℕ × State)) (o : Option State) → first_of (detections_in false rest) ≡ others
    → first_of (detections_in false ((n, o) ∷ rest)) ≡ option_or (option_map (λ s. (n, s)) o) others
first_case n rest others None e = e
first_case n rest others (Some s) e = refl

first_is : (tried : ℕ × Test → Tried RunRecord) (ran : ℕ × Test → Ran) (ts : List (ℕ × Test)) → AllByRecursion (Said tried ran) ts
    → first_of (detections_in false (map (saying says) (map tried ts))) ≡ killer (map (λ t. (t.0, ran t)) ts)
first_is tried ran [] q = refl
first_is tried ran (t ∷ ts) q =
    (λ i. first_of (detections_in false ((q.0.0 i, q.0.1 i) ∷ map (saying says) (map tried ts))))
    ∙ first_case t.0 (map (saying says) (map tried ts)) (killer (map (λ t. (t.0, ran t)) ts)) (detected (ran t).ending) (first_is tried ran ts q.1)

tests_are : (tried : ℕ × Test → Tried RunRecord) (ran : ℕ × Test → Ran) (ts : List (ℕ × Test)) → AllByRecursion (Said tried ran) ts → map (λ (t : Tried RunRecord). t.test) (map tried ts) ≡ map (λ (t : ℕ × Test). t.0) ts
tests_are tried ran [] q = refl
tests_are tried ran (t ∷ ts) q = λ i. q.0.0 i ∷ tests_are tried ran ts q.1 i

-- ---- one mutant

module _ (g : Given) (say : RecordsSayRuns) (suffice : SelectedAlwaysSuffice) (a : Allowed) (s : Suite) (old : List RunRecord) (h : IsAccepted s) (true_old : AreTrue profile old) (pass : AllPass s.program a.limits a.steps s.tests) where
  -- What is known of a test's run on the program is what that run says.
  pub original_said : (t : ℕ × Test) → IsGoodOne g a s old h true_old t → SaysRun (known (original_tried a s old t)) (original_run s.program t.1 a.limits a.steps)
  original_said t q =
      let own = original_own g a s old h true_old t q in
      let asked = original_asked s.files s.program t.1 a.limits a.steps in
      subst (λ (r : RunRecord). SaysRun r (original_run s.program t.1 a.limits a.steps)) (sym own.known_is) (say asked (made_by asked) own.reusable own.record_is)

  module _ (m : Mutant) (of : IsOfFile s.program m) (made : Class × List ℕ) (at : viable_file s.program m ≡ Some made) where
    abbrev pub Looked : Look
    Looked = with_class made.0 (look s.program)

    covering_is : covering a s old m ≡ selected s.program m a.limits a.steps s.tests
    covering_is =
        filtered_alike (IsGoodOne g a s old h true_old) (λ t. has_reached m (known (original_tried a s old t))) (λ t. reaches m (original_run s.program t.1 a.limits a.steps))
        (λ t q. let said = original_said t q in said.reaches m) (numbered s) (good_ones g a s old h true_old)

    -- So it is of its run on the mutant.
    pub mutant_said : (t : ℕ × Test) → IsGoodOne g a s old h true_old t → Said (mutant_tried a s old made) (λ t. edited_run s.program Looked t.1 a.limits a.steps) t
    unfolding mutant_run
    mutant_said t q =
        let own = mutant_own g a s old h true_old m of made at t q in
        let first = original_said t q in
        let limit = limit_of (known (original_tried a s old t)).steps in
        let asked = mutant_asked s.files s.program made t.1 a.limits limit in
        let said = say asked (made_by asked) own.reusable own.record_is in (
          refl,
          ap says own.known_is ∙ said.detects
              ∙ ap (λ (n : ℕ). let r = run (mutant_asked s.files s.program made t.1 a.limits (limit_of n)) in detected r.ending) first.steps,
        )

    all_said : AllByRecursion (Said (mutant_tried a s old made) (λ t. edited_run s.program Looked t.1 a.limits a.steps)) (covering a s old m)
    all_said = each_said (covering a s old m) (all_filtered (IsGoodOne g a s old h true_old) _ (numbered s) (good_ones g a s old h true_old))
      where
        each_said : (ts : List (ℕ × Test)) → AllByRecursion (IsGoodOne g a s old h true_old) ts → AllByRecursion (Said (mutant_tried a s old made) (λ t. edited_run s.program Looked t.1 a.limits a.steps)) ts
        each_said [] q = tt
        each_said (t ∷ ts) q = (mutant_said t q.0, each_said ts q.1)

    verdict_is : verdict_on (map (mutant_tried a s old made) (covering a s old m)) ≡ verdict_of a.limits (files_of s.program) (look s.program) (timed_of s.program a.limits a.steps s.tests) m
    verdict_is =
        let runs : ℕ × Test → Ran = λ t. edited_run s.program Looked t.1 a.limits a.steps in
        (λ i. verdict_by (tests_are (mutant_tried a s old made) runs (covering a s old m) all_said i) (first_is (mutant_tried a s old made) runs (covering a s old m) all_said i))
        ∙ ap (λ (ts : List (ℕ × Test)). verdict_by (map (λ t. t.0) ts) (killer (runs_of s.program Looked a.limits a.steps ts))) covering_is
        ∙ sym (suffice s.program m Looked a.limits a.steps s.tests (is_safe_mutant g a s old h true_old m of made at) (whole g a s old h true_old) (fits g a s old h true_old) pass)

  -- ---- all mutants

  -- one that isn't viable
  none_viable : (m : Mutant) → viable_file s.program m ≡ None → viable (files_of s.program) (look s.program) m ≡ None
  none_viable m e = by_made (option_and_then (λ c. applied c m.edit) (files_of s.program m.class)) e
    where
      by_fault : (k : Class × List ℕ) (o : Option Placed) → (if is_some o then None else Some k) ≡ None → (if is_some o then None else Some (with_class k.0 (look s.program))) ≡ None
      by_fault k None e = absurd cc
      by_fault k (Some f) e = refl

      by_made : (o : Option (Class × List ℕ)) → option_and_then (unless_refused s.program m) o ≡ None → option_and_then (with_accepted m.class) (option_map (λ (k : Class × List ℕ). with_class k.0 (look s.program)) o) ≡ None
      by_made None e = refl
      by_made (Some k) e = by_fault k (class_fault (with_class k.0 (look s.program)) m.class) e

  verdict_case : (m : Mutant) → IsOfFile s.program m → (o : Option (Class × List ℕ)) → viable_file s.program m ≡ o
      → option_map_or (λ made. verdict_on (option_map_or (λ made. map (mutant_tried a s old made) (covering a s old m)) o [])) o not_viable ≡ verdict_of a.limits (files_of s.program) (look s.program) (timed_of s.program a.limits a.steps s.tests) m
  unfolding verdict_of
  verdict_case m of None e =
      let tests = timed_of s.program a.limits a.steps s.tests in
      sym (ap (λ (o : Option Look). option_map_or (verdict_of_runs m) (option_map (λ (p : Look). runs_on a.limits p tests) o) not_viable) (none_viable m e))
  verdict_case m of (Some made) e = verdict_is m of made e

  verdicts_are : (ms : List Mutant) → AllByRecursion (IsOfFile s.program) ms → map (job_verdict a s old) ms ≡ map (verdict_of a.limits (files_of s.program) (look s.program) (timed_of s.program a.limits a.steps s.tests)) ms
  verdicts_are [] q = refl
  verdicts_are (m ∷ ms) q = λ i. verdict_case m q.0 (viable_file s.program m) refl i ∷ verdicts_are ms q.1 i

pub of_all_tests : Given → RecordsSayRuns → SelectedAlwaysSuffice → VerdictsAreOfAllTests
of_all_tests g say suffice a s old h true_old pass =
    verdicts_are g say suffice a s old h true_old pass s.mutants (recursion_from_All (IsOfFile s.program) s.mutants h.mutants)
