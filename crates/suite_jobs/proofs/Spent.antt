-- What a job costs is what the runs cost that old records lack.
use Rattle.std.proofs.Common.{◌≡◌, ◌∙◌, ℕ, ◌+◌, Bool, true, false, cond, List, [], ◌∷◌, map, Option, Some, None, refl, sym, ap, subst}
use Rattle.std.specs.Prelude.{filter, is_some, if◌then◌else◌, sum_by}
use Rattle.std.specs.List.{flat_map, AllByRecursion, enumerate_from}
use Rattle.std.specs.Option.{option_map, option_map_or}
use Rattle.std.proofs.lemmas.Grind.{flat_map-append}
use Rattle.std.proofs.lemmas.List.{append-nil}
use Rattle.std.proofs.lemmas.List.Elements.{recursion_from_All}
use Rattle.std.proofs.lemmas.List.Sums.{sum_by-cons, sum_by-append}
use Rattle.class_model.specs.declared.class.Class.{Class}
use Rattle.program_rules.specs.Programs.{Look}
use Rattle.machine_rules.specs.Outcomes.{Passed}
use Rattle.machine_rules.specs.Runs.{With, limit_of}
use Rattle.machine_laws.specs.FrameLaw.{HasEnded}
use Rattle.type_laws.specs.Soundness.{IsStuck}
use Rattle.class_table.specs.declared.scripted.Test.{Test}
use Rattle.class_table.specs.Table.{look}
use Rattle.mutator_ops.specs.declared.mutant.Mutant.{Mutant}
use Rattle.suite_records.specs.Below.{SelectedAlwaysSuffice, original_run, edited_run, AllPass, NotStuckThere, ReachingIsAlike, with_class, mutant_run, reaches, detected}
use Rattle.record_rules.specs.declared.record.RunRecord.{RunRecord}
use Rattle.record_rules.specs.Records.{Asked, run}
use Rattle.record_rules.specs.Matching.{first_match}
use Rattle.record_rules.specs.Jobs.{with_limit, steps_of as asked_steps, covering_runs, up_to, needed_runs, need, all_runs}
use Rattle.reuse_laws.specs.Jobs.{AreTrue}
use Rattle.class_records.specs.Profile.{profile}
use Rattle.suite_records.specs.Suites.{original_asked, mutant_asked}
use Rattle.job_rules.specs.Tried.{Tried, known, detects, needed, cost_of_run, cost_of, cost_of_all, need_cost}
use Rattle.suite_jobs.specs.Jobs.{Suite, Allowed, IsOfFile, IsAccepted, tried_on, says, has_reached, numbered, original_tried, covering, viable_file, mutant_tried, mutant_runs, job_runs, trial_of, trials_of, asked_job}
use Rattle.suite_jobs.specs.Laws.{steps_of, RecordsSayRuns, CostsAsAsked}
use Rattle.suite_jobs.proofs.Lists.{all_zipped, all_numbered}
use Rattle.suite_jobs.proofs.Alike.{Runs}
use Rattle.suite_jobs.proofs.Own.{Given, IsGoodOne, good_ones, is_safe_mutant, whole}
use Rattle.suite_jobs.proofs.Verdicts.{original_said, mutant_said}

-- ---- runs that are asked for, and what old records have of them

found_case : (x : Asked) (o : Option RunRecord) (n : ℕ) → (if is_some (option_map (with_limit x.limit) o) then 0 else n) ≡ (if is_some o then 0 else n)
found_case x None n = refl
found_case x (Some r) n = refl

one_cost : (old : List RunRecord) (k : ℕ) (x : Asked) → cost_of_run steps_of (tried_on old k x) ≡ asked_steps old x
unfolding asked_steps
one_cost old k x = found_case x (first_match old x) (run x).steps

-- It costs and says what the run does.
pub record IsRunOf (old : List RunRecord) (x : Asked) (t : Tried RunRecord) : Type 0 where
  pub cost : cost_of_run steps_of t ≡ asked_steps old x
  pub state : detects says t ≡ is_some (detected (run x).ending)

abbrev AreRunsOf : List RunRecord → List Asked → Runs → Type 0
AreRunsOf old [] [] = Unit {0}
AreRunsOf old [] (t ∷ ts) = ⊥
AreRunsOf old (x ∷ xs) [] = ⊥
AreRunsOf old (x ∷ xs) (t ∷ ts) = IsRunOf old x t × AreRunsOf old xs ts

cost_is : (old : List RunRecord) (xs : List Asked) (ts : Runs) → AreRunsOf old xs ts → sum_by (asked_steps old) xs ≡ cost_of steps_of ts
cost_is old [] [] q = refl
cost_is old [] (t ∷ ts) q = absurd q
cost_is old (x ∷ xs) [] q = absurd q
cost_is old (x ∷ xs) (t ∷ ts) q =
    let one = q.0 in
    sum_by-cons (asked_steps old) x xs ∙ (λ i. sym one.cost i + cost_is old xs ts q.1 i)

stop_case : (old : List RunRecord) (xs : List Asked) (ts : Runs) (b : Bool) → AreRunsOf old xs ts → AreRunsOf old (if b then [] else xs) (if b then [] else ts)
stop_case old xs ts true q = tt
stop_case old xs ts false q = q

needed_are : (old : List RunRecord) (xs : List Asked) (ts : Runs) → AreRunsOf old xs ts → AreRunsOf old (up_to (λ ran. is_some (detected ran.ending)) xs) (needed says false ts)
needed_are old [] [] q = tt
needed_are old [] (t ∷ ts) q = absurd q
needed_are old (x ∷ xs) [] q = absurd q
needed_are old (x ∷ xs) (t ∷ ts) q =
    let one = q.0 in
    let ups = up_to (λ ran. is_some (detected ran.ending)) xs in
    let needs = needed says false ts in (
      q.0,
      subst (λ (b : Bool). AreRunsOf old (if b then [] else ups) (if detects says t then [] else needs)) one.state
          (stop_case old ups needs (detects says t) (needed_are old xs ts q.1)),
    )

chosen_case : (old : List RunRecord) (x : Asked) (xs : List Asked) (tried : ℕ × Test → Tried RunRecord) (t : ℕ × Test) (ts : List (ℕ × Test)) (b : Bool) → IsRunOf old x (tried t) → AreRunsOf old xs (map tried ts)
    → AreRunsOf old (cond b (x ∷ xs) xs) (map tried (cond b (t ∷ ts) ts))
chosen_case old x xs tried t ts true one q = (one, q)
chosen_case old x xs tried t ts false one q = q

-- A test is chosen alike by its run and by its number.
abbrev Chosen : List RunRecord → (Test → Asked) → (Asked → Bool) → (ℕ × Test → Tried RunRecord) → (ℕ × Test → Bool) → ℕ × Test → Type 0
Chosen old asked test tried has t = (test (asked t.1) ≡ has t) × IsRunOf old (asked t.1) (tried t)

chosen_are : (old : List RunRecord) (asked : Test → Asked) (test : Asked → Bool) (tried : ℕ × Test → Tried RunRecord) (has : ℕ × Test → Bool) (n : ℕ) (ts : List Test)
    → AllByRecursion (Chosen old asked test tried has) (enumerate_from n ts) → AreRunsOf old (filter test (map asked ts)) (map tried (filter has (enumerate_from n ts)))
chosen_are old asked test tried has n [] q = tt
chosen_are old asked test tried has n (t ∷ ts) q =
    let xs = filter test (map asked ts) in
    let others = filter has (enumerate_from (n + 1) ts) in
    subst (λ (b : Bool). AreRunsOf old (cond b (asked t ∷ xs) xs) (map tried (cond (has (n, t)) ((n, t) ∷ others) others))) (sym q.0.0)
    (chosen_case old (asked t) xs tried (n, t) others (has (n, t)) q.0.1 (chosen_are old asked test tried has (n + 1) ts q.1))

all_are : (old : List RunRecord) (asked : Test → Asked) (tried : ℕ × Test → Tried RunRecord) (n : ℕ) (ts : List Test)
    → AllByRecursion (λ t. IsRunOf old (asked t.1) (tried t)) (enumerate_from n ts) → AreRunsOf old (map asked ts) (map tried (enumerate_from n ts))
all_are old asked tried n [] q = tt
all_are old asked tried n (t ∷ ts) q = (q.0, all_are old asked tried (n + 1) ts q.1)

-- ---- the runs of a job

module _ (g : Given) (say : RecordsSayRuns) (suffice : SelectedAlwaysSuffice) (alike : ReachingIsAlike) (a : Allowed) (s : Suite) (old : List RunRecord) (h : IsAccepted s) (true_old : AreTrue profile old) (pass : AllPass s.program a.limits a.steps s.tests) where
  abbrev pub Good : ℕ × Test → Type 0
  Good t = IsGoodOne g a s old h true_old t

  abbrev pub Passes : ℕ × Test → Type 0
  Passes t = (original_run s.program t.1 a.limits a.steps).ending ≡ With Passed

  abbrev pub Both : ℕ × Test → Type 0
  Both t = Good t × Passes t

  pub both : AllByRecursion Both (numbered s)
  both =
      all_zipped Good Passes Both (λ t p q. (p, q)) (numbered s) (good_ones g a s old h true_old)
      (all_numbered (λ t. (original_run s.program t a.limits a.steps).ending ≡ With Passed) 0 s.tests
      (recursion_from_All (λ t. (original_run s.program t a.limits a.steps).ending ≡ With Passed) s.tests pass))

  abbrev original_at : Test → Asked
  original_at t = original_asked s.files s.program t a.limits a.steps

  original_run_of : (t : ℕ × Test) → Both t → IsRunOf old (original_at t.1) (original_tried a s old t)
  original_run_of t q =
      let said = original_said g say suffice a s old h true_old pass t q.0 in
      record { cost = one_cost old t.0 (original_at t.1); state = ap is_some said.detects }

  each_original : (ts : List (ℕ × Test)) → AllByRecursion Both ts → AllByRecursion (λ t. IsRunOf old (original_at t.1) (original_tried a s old t)) ts
  each_original [] q = tt
  each_original (t ∷ ts) q = (original_run_of t q.0, each_original ts q.1)

  originals_cost : sum_by (asked_steps old) (map original_at s.tests) ≡ cost_of steps_of (map (original_tried a s old) (numbered s))
  originals_cost =
      cost_is old (map original_at s.tests) (map (original_tried a s old) (numbered s))
      (all_are old original_at (original_tried a s old) 0 s.tests (each_original (numbered s) both))

  module _ (m : Mutant) (of : IsOfFile s.program m) (made : Class × List ℕ) (at : viable_file s.program m ≡ Some made) where
    abbrev Looked : Look
    Looked = with_class made.0 (look s.program)

    abbrev mutant_at : Test → Asked
    mutant_at t = mutant_asked s.files s.program made t a.limits (limit_of (original_run s.program t a.limits a.steps).steps)

    goes_past : (t : ℕ × Test) → Good t → NotStuckThere m (edited_run s.program Looked t.1 a.limits a.steps)
    unfolding mutant_run
    goes_past t q stuck =
        g.viable s.program m Looked t.1 a.limits (limit_of (original_run s.program t.1 a.limits a.steps).steps)
        (is_safe_mutant g a s old h true_old m of made at) q.1 (subst IsStuck (sym stuck) tt)

    pub reached_alike : (t : ℕ × Test) → Both t → reaches m (run (mutant_at t.1)) ≡ has_reached m (known (original_tried a s old t))
    unfolding mutant_run
    reached_alike t q =
        let safe = is_safe_mutant g a s old h true_old m of made at in
        let said = original_said g say suffice a s old h true_old pass t q.0 in
        let ended : HasEnded (original_run s.program t.1 a.limits a.steps).ending = subst HasEnded (sym q.1) tt in
        (alike s.program m Looked t.1 a.limits a.steps safe.mutated (whole g a s old h true_old) ended).1 (goes_past t q.0) ∙ sym (said.reaches m)

    mutant_run_of : (t : ℕ × Test) → Both t → IsRunOf old (mutant_at t.1) (mutant_tried a s old made t)
    unfolding mutant_run
    mutant_run_of t q =
        let said = original_said g say suffice a s old h true_old pass t q.0 in
        let state = mutant_said g say suffice a s old h true_old pass m of made at t q.0 in
        record {
          cost =
              one_cost old t.0 (mutant_asked s.files s.program made t.1 a.limits (limit_of (known (original_tried a s old t)).steps))
              ∙ ap (λ (n : ℕ). asked_steps old (mutant_asked s.files s.program made t.1 a.limits (limit_of n))) said.steps;
          state = ap is_some state.1;
        }

    abbrev has : ℕ × Test → Bool
    has t = has_reached m (known (original_tried a s old t))

    each_chosen : (ts : List (ℕ × Test)) → AllByRecursion Both ts → AllByRecursion (Chosen old mutant_at (λ x. reaches m (run x)) (mutant_tried a s old made) has) ts
    each_chosen [] q = tt
    each_chosen (t ∷ ts) q = ((reached_alike t q.0, mutant_run_of t q.0), each_chosen ts q.1)

    covering_are : AreRunsOf old (covering_runs (trial_of a s m made)) (map (mutant_tried a s old made) (covering a s old m))
    covering_are = chosen_are old mutant_at (λ x. reaches m (run x)) (mutant_tried a s old made) has 0 s.tests (each_chosen (numbered s) both)

    most_is : sum_by (asked_steps old) (covering_runs (trial_of a s m made)) ≡ cost_of steps_of (map (mutant_tried a s old made) (covering a s old m))
    most_is = cost_is old (covering_runs (trial_of a s m made)) (map (mutant_tried a s old made) (covering a s old m)) covering_are

    least_is : sum_by (asked_steps old) (needed_runs (trial_of a s m made)) ≡ cost_of steps_of (needed says false (map (mutant_tried a s old made) (covering a s old m)))
    least_is =
        cost_is old (needed_runs (trial_of a s m made)) (needed says false (map (mutant_tried a s old made) (covering a s old m)))
        (needed_are old (covering_runs (trial_of a s m made)) (map (mutant_tried a s old made) (covering a s old m)) covering_are)

  -- ---- all mutants

  one_most : (m : Mutant) → IsOfFile s.program m → (o : Option (Class × List ℕ)) → viable_file s.program m ≡ o
      → sum_by (asked_steps old) (flat_map covering_runs (option_map_or (λ made. trial_of a s m made ∷ []) o [])) ≡ cost_of steps_of (option_map_or (λ made. map (mutant_tried a s old made) (covering a s old m)) o [])
  one_most m of None e = refl
  one_most m of (Some made) e = ap (sum_by (asked_steps old)) (append-nil (covering_runs (trial_of a s m made))) ∙ most_is m of made e

  one_least : (m : Mutant) → IsOfFile s.program m → (o : Option (Class × List ℕ)) → viable_file s.program m ≡ o
      → sum_by (asked_steps old) (flat_map needed_runs (option_map_or (λ made. trial_of a s m made ∷ []) o []))
      ≡ cost_of steps_of (needed says false (option_map_or (λ made. map (mutant_tried a s old made) (covering a s old m)) o []))
  one_least m of None e = refl
  one_least m of (Some made) e = ap (sum_by (asked_steps old)) (append-nil (needed_runs (trial_of a s m made))) ∙ least_is m of made e

  mutants_most : (ms : List Mutant) → AllByRecursion (IsOfFile s.program) ms → sum_by (asked_steps old) (flat_map covering_runs (flat_map (trials_of a s) ms)) ≡ cost_of_all steps_of (map (mutant_runs a s old) ms)
  mutants_most [] q = refl
  mutants_most (m ∷ ms) q =
      ap (sum_by (asked_steps old)) (flat_map-append covering_runs (trials_of a s m) (flat_map (trials_of a s) ms))
      ∙ sum_by-append (asked_steps old) (flat_map covering_runs (trials_of a s m)) (flat_map covering_runs (flat_map (trials_of a s) ms))
      ∙ (λ i. one_most m q.0 (viable_file s.program m) refl i + mutants_most ms q.1 i)

  mutants_least : (ms : List Mutant) → AllByRecursion (IsOfFile s.program) ms → sum_by (asked_steps old) (flat_map needed_runs (flat_map (trials_of a s) ms)) ≡ need_cost says steps_of false (map (mutant_runs a s old) ms)
  mutants_least [] q = refl
  mutants_least (m ∷ ms) q =
      ap (sum_by (asked_steps old)) (flat_map-append needed_runs (trials_of a s m) (flat_map (trials_of a s) ms))
      ∙ sum_by-append (asked_steps old) (flat_map needed_runs (trials_of a s m)) (flat_map needed_runs (flat_map (trials_of a s) ms))
      ∙ (λ i. one_least m q.0 (viable_file s.program m) refl i + mutants_least ms q.1 i)

  of_files : AllByRecursion (IsOfFile s.program) s.mutants
  of_files = recursion_from_All (IsOfFile s.program) s.mutants h.mutants

  pub costs_as_asked : CostsAsAsked a s old
  unfolding job_runs asked_job need all_runs
  costs_as_asked = record {
    least =
        sym (sum_by-append (asked_steps old) (map original_at s.tests) (flat_map needed_runs (flat_map (trials_of a s) s.mutants))
        ∙ (λ i. originals_cost i + mutants_least s.mutants of_files i));
    most =
        sym (sum_by-append (asked_steps old) (map original_at s.tests) (flat_map covering_runs (flat_map (trials_of a s) s.mutants))
        ∙ (λ i. originals_cost i + mutants_most s.mutants of_files i));
  }
