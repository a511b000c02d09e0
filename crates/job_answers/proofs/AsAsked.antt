-- A job answers what the job that is asked does, of which each run is made anew: its runs on a
-- mutant are those that reach the mutant's line there.
use Rattle.std.proofs.Common.{◌≡◌, ◌∙◌, ℕ, suc, ◌+◌, Bool, true, false, cond, List, [], ◌∷◌, ◌++◌, length, map, Option, Some, None, Result, refl, sym, ap, subst, arith}
use Rattle.std.specs.Prelude.{filter, is_some, if◌then◌else◌, sum_by}
use Rattle.std.specs.List.{flat_map, AllByRecursion, enumerate_from}
use Rattle.std.specs.Option.{option_map, option_map_or, option_or, unwrap_or}
use Rattle.std.proofs.lemmas.Grind.{flat_map-append}
use Rattle.std.proofs.lemmas.List.{append-nil}
use Rattle.std.proofs.lemmas.List.Concat.{flat_map-cons}
use Rattle.std.proofs.lemmas.List.Elements.{recursion_from_All}
use Rattle.std.proofs.lemmas.List.Sums.{sum_by-cons, sum_by-append}
use Rattle.class_model.specs.declared.class.Class.{Class}
use Rattle.program_rules.specs.Programs.{Look}
use Rattle.machine_rules.specs.Outcomes.{Passed}
use Rattle.machine_rules.specs.Runs.{With, limit_of}
use Rattle.machine_laws.specs.FrameLaw.{HasEnded}
use Rattle.type_laws.specs.Soundness.{IsStuck}
use Rattle.class_table.specs.declared.scripted.Test.{Test}
use Rattle.class_table.specs.Table.{look}
use Rattle.mutator_ops.specs.declared.mutant.Mutant.{Mutant}
use Rattle.suite_jobs.specs.Below.{ReuseChangesNothing, original_asked, mutant_asked, original_run, edited_run, AllPass, NotStuckThere, ReachingIsAlike, with_class, mutant_run, reaches, detected}
use Rattle.record_rules.specs.declared.record.RunRecord.{RunRecord}
use Rattle.record_rules.specs.Histories.{Kept, kept_with, kept_of, once_behind, all_kept, new_records, reused}
use Rattle.record_rules.specs.Records.{Asked, run, record_of}
use Rattle.record_rules.specs.Matching.{first_match}
use Rattle.record_rules.specs.Jobs.{with_limit, end_of, Trial, steps_of as asked_steps, covering_runs, up_to, needed_runs, need as asked_need, all_runs}
use Rattle.reuse_laws.specs.Jobs.{AreTrue, OldHaveNoPart}
use Rattle.class_records.specs.Profile.{profile}
use Rattle.job_rules.specs.Tried.{Tried, known, detects, needed, needed_of_all, need, cost_of_run, cost_of}
use Rattle.suite_jobs.specs.Jobs.{Suite, Allowed, IsOfFile, IsAccepted, made_by, tried_on, says, has_reached, numbered, original_tried, covering, viable_file, mutant_tried, mutant_runs, job_runs, trial_of, trials_of, asked_job}
use Rattle.suite_jobs.specs.Laws.{steps_of, SaysRun, RecordsSayRuns}
use Rattle.job_answers.specs.declared.refusal.JobRefusal.{JobRefusal}
use Rattle.job_answers.specs.Answers.{JobAnswer, asked_cells, cell_total, cost_by, exactly, need_of}
use Rattle.job_answers.specs.Laws.{AnswersAreAsAsked, AnswersAreOfAllTests, RefusalsCostOriginals}
use Rattle.job_answers.proofs.Answered.{answered}
use Rattle.job_answers.proofs.Recorded.{Given, IsGood, IsRecordable, good_tests, is_safe_mutant, mutant, original, whole}
use Rattle.job_answers.proofs.Scratch.{all_needed}
use Rattle.job_answers.proofs.TriedOnce.{kept, records_are, reused_are}

abbrev Runs : Type 0
Runs = List (Tried RunRecord)

-- ---- runs that are asked for, and what is kept of them

found_case : (x : Asked) (o : Option RunRecord) → is_some o ≡ is_some (option_map (with_limit x.limit) o)
found_case x None = refl
found_case x (Some r) = refl

known_case : (found : Option RunRecord) (made : RunRecord) (r : Option RunRecord) → option_or found r ≡ r → r ≡ Some made → unwrap_or found made ≡ made
known_case None made r e f = refl
known_case (Some k) made r e f = let g : Some k ≡ Some made = e ∙ f in cc

known_is : (old : List RunRecord) (k : ℕ) (x : Asked) → end_of old x ≡ record_of x → record_of x ≡ Some (made_by x) → known (tried_on old k x) ≡ made_by x
unfolding end_of
known_is old k x e f = known_case (option_map (with_limit x.limit) (first_match old x)) (made_by x) (record_of x) e f

own_kept : (old : List RunRecord) (k : ℕ) (x : Asked) → record_of x ≡ Some (made_by x) → known (tried_on old k x) ≡ made_by x → kept_of old x ≡ kept (tried_on old k x) ∷ []
own_kept old k x has is =
    ap (kept_with (is_some (first_match old x))) (has ∙ ap Some (sym is))
    ∙ ap (λ (b : Bool). kept_with b (Some (known (tried_on old k x)))) (found_case x (first_match old x))

-- What is known of this run is its own record, so it says what the run does.
record IsOwnRun (old : List RunRecord) (k : ℕ) (x : Asked) : Type 0 where
  kept_is : kept_of old x ≡ kept (tried_on old k x) ∷ []
  said : SaysRun (known (tried_on old k x)) (run x)

own_run : ReuseChangesNothing → RecordsSayRuns → (old : List RunRecord) → AreTrue profile old → (k : ℕ) (x : Asked) → IsRecordable x → IsOwnRun old k x
own_run same say old true_old k x q =
    let is = known_is old k x (same old x true_old q.reusable) q.has in
    record {
      kept_is = own_kept old k x q.has is;
      said = subst (λ (r : RunRecord). SaysRun r (run x)) (sym is) (say x (made_by x) q.reusable q.has);
    }

-- This is kept of it, and it says what the run does.
pub record IsRunOf (old : List RunRecord) (x : Asked) (t : Tried RunRecord) : Type 0 where
  pub is : kept_of old x ≡ kept t ∷ []
  pub state : detects says t ≡ is_some (detected (run x).ending)

abbrev AreRunsOf : List RunRecord → List Asked → Runs → Type 0
AreRunsOf old [] [] = Unit {0}
AreRunsOf old [] (t ∷ ts) = ⊥
AreRunsOf old (x ∷ xs) [] = ⊥
AreRunsOf old (x ∷ xs) (t ∷ ts) = IsRunOf old x t × AreRunsOf old xs ts

kept_are : (old : List RunRecord) (xs : List Asked) (ts : Runs) → AreRunsOf old xs ts → flat_map (kept_of old) xs ≡ map kept ts
kept_are old [] [] q = refl
kept_are old [] (t ∷ ts) q = absurd q
kept_are old (x ∷ xs) [] q = absurd q
kept_are old (x ∷ xs) (t ∷ ts) q =
    let one = q.0 in
    flat_map-cons (kept_of old) x xs ∙ (λ i. one.is i ++ kept_are old xs ts q.1 i)

as_many : (old : List RunRecord) (xs : List Asked) (ts : Runs) → AreRunsOf old xs ts → length ts ≡ length xs
as_many old [] [] q = refl
as_many old [] (t ∷ ts) q = absurd q
as_many old (x ∷ xs) [] q = absurd q
as_many old (x ∷ xs) (t ∷ ts) q = ap suc (as_many old xs ts q.1)

stop_case : (old : List RunRecord) (xs : List Asked) (ts : Runs) (b : Bool) → AreRunsOf old xs ts → AreRunsOf old (if b then [] else xs) (if b then [] else ts)
stop_case old xs ts true q = tt
stop_case old xs ts false q = q

needed_are : (old : List RunRecord) (xs : List Asked) (ts : Runs) → AreRunsOf old xs ts → AreRunsOf old (up_to (λ ran. is_some (detected ran.ending)) xs) (needed says false ts)
needed_are old [] [] q = tt
needed_are old [] (t ∷ ts) q = absurd q
needed_are old (x ∷ xs) [] q = absurd q
needed_are old (x ∷ xs) (t ∷ ts) q =
    let one = q.0 in
    let ups = up_to (λ ran. is_some (detected ran.ending)) xs in
    let needs = needed says false ts in (
      q.0,
      subst (λ (b : Bool). AreRunsOf old (if b then [] else ups) (if detects says t then [] else needs)) one.state
          (stop_case old ups needs (detects says t) (needed_are old xs ts q.1)),
    )

-- The runs of a mutant that are needed.
abbrev wanted : Bool → Trial → List Asked
wanted false t = needed_runs t
wanted true t = covering_runs t

wanted_are : (old : List RunRecord) (all : Bool) (t : Trial) (ts : Runs) → AreRunsOf old (covering_runs t) ts → AreRunsOf old (needed_runs t) (needed says false ts) → AreRunsOf old (wanted all t) (needed says all ts)
wanted_are old false t ts q p = p
wanted_are old true t ts q p = subst (AreRunsOf old (covering_runs t)) (sym (all_needed ts)) q

chosen_case : (old : List RunRecord) (x : Asked) (xs : List Asked) (tried : ℕ × Test → Tried RunRecord) (t : ℕ × Test) (ts : List (ℕ × Test)) (b : Bool) → IsRunOf old x (tried t) → AreRunsOf old xs (map tried ts)
    → AreRunsOf old (cond b (x ∷ xs) xs) (map tried (cond b (t ∷ ts) ts))
chosen_case old x xs tried t ts true one q = (one, q)
chosen_case old x xs tried t ts false one q = q

-- A test is chosen alike by its run and by its number.
abbrev Chosen : List RunRecord → (Test → Asked) → (Asked → Bool) → (ℕ × Test → Tried RunRecord) → (ℕ × Test → Bool) → ℕ → Test → Type 0
Chosen old asked test tried has n t = (test (asked t) ≡ has (n, t)) × IsRunOf old (asked t) (tried (n, t))

chosen_are : (old : List RunRecord) (asked : Test → Asked) (test : Asked → Bool) (tried : ℕ × Test → Tried RunRecord) (has : ℕ × Test → Bool) (P : Test → Type 0) → ((n : ℕ) (t : Test) → P t → Chosen old asked test tried has n t)
    → (n : ℕ) (ts : List Test) → AllByRecursion P ts → AreRunsOf old (filter test (map asked ts)) (map tried (filter has (enumerate_from n ts)))
chosen_are old asked test tried has P each n [] q = tt
chosen_are old asked test tried has P each n (t ∷ ts) q =
    let xs = filter test (map asked ts) in
    let others = filter has (enumerate_from (n + 1) ts) in
    let one = each n t q.0 in
    subst (λ (b : Bool). AreRunsOf old (cond b (asked t ∷ xs) xs) (map tried (cond (has (n, t)) ((n, t) ∷ others) others))) (sym one.0)
    (chosen_case old (asked t) xs tried (n, t) others (has (n, t)) one.1 (chosen_are old asked test tried has P each (n + 1) ts q.1))

kept_joined : (xs ys : Runs) → map kept (xs ++ ys) ≡ map kept xs ++ map kept ys
kept_joined [] ys = refl
kept_joined (x ∷ xs) ys = ap (λ (ks : List Kept). kept x ∷ ks) (kept_joined xs ys)

-- how many runs of a mutant reach its line
abbrev reach : Trial → ℕ
reach t = length (covering_runs t)

one_reach : (t : Trial) → sum_by reach (t ∷ []) ≡ reach t
one_reach t = let e : sum_by reach (t ∷ []) ≡ reach t + 0 = sum_by-cons reach t [] in omega (arith, e)

-- ---- the runs of a job

module _ (g : Given) (same : ReuseChangesNothing) (say : RecordsSayRuns) (alike : ReachingIsAlike) (a : Allowed) (s : Suite) (old : List RunRecord) (h : IsAccepted s) (true_old : AreTrue profile old) (pass : AllPass s.program a.limits a.steps s.tests) where
  abbrev Passes : Test → Type 0
  Passes t = (original_run s.program t a.limits a.steps).ending ≡ With Passed

  abbrev Both : Test → Type 0
  Both t = IsGood g a s h t × Passes t

  both_of : (ts : List Test) → AllByRecursion (IsGood g a s h) ts → AllByRecursion Passes ts → AllByRecursion Both ts
  both_of [] p q = tt
  both_of (t ∷ ts) p q = ((p.0, q.0), both_of ts p.1 q.1)

  both : AllByRecursion Both s.tests
  both = both_of s.tests (good_tests g a s h) (recursion_from_All Passes s.tests pass)

  abbrev original_at : Test → Asked
  original_at t = original_asked s.files s.program t a.limits a.steps

  original_own : (k : ℕ) (t : Test) → IsGood g a s h t → IsOwnRun old k (original_at t)
  original_own k t q = own_run same say old true_old k (original_at t) (original g a s h t q)

  originals_from : (n : ℕ) (ts : List Test) → AllByRecursion Both ts → flat_map (kept_of old) (map original_at ts) ≡ map kept (map (original_tried a s old) (enumerate_from n ts))
  originals_from n [] q = refl
  originals_from n (t ∷ ts) q =
      let one = original_own n t q.0.0 in
      flat_map-cons (kept_of old) (original_at t) (map original_at ts)
      ∙ (λ i. one.kept_is i ++ originals_from (n + 1) ts q.1 i)

  module _ (m : Mutant) (of : IsOfFile s.program m) (made : Class × List ℕ) (at : viable_file s.program m ≡ Some made) where
    abbrev Looked : Look
    Looked = with_class made.0 (look s.program)

    abbrev mutant_in : Test → ℕ → Asked
    mutant_in t steps = mutant_asked s.files s.program made t a.limits (limit_of steps)

    abbrev mutant_at : Test → Asked
    mutant_at t = mutant_in t (original_run s.program t a.limits a.steps).steps

    goes_past : (t : Test) → IsGood g a s h t → NotStuckThere m (edited_run s.program Looked t a.limits a.steps)
    unfolding mutant_run
    goes_past t q stuck =
        g.viable s.program m Looked t a.limits (limit_of (original_run s.program t a.limits a.steps).steps)
        (is_safe_mutant g a s h m of made at) q.1 (subst IsStuck (sym stuck) tt)

    reached_alike : (k : ℕ) (t : Test) → Both t → reaches m (run (mutant_at t)) ≡ has_reached m (known (original_tried a s old (k, t)))
    unfolding mutant_run
    reached_alike k t q =
        let safe = is_safe_mutant g a s h m of made at in
        let first = original_own k t q.0 in
        let said = first.said in
        let ended : HasEnded (original_run s.program t a.limits a.steps).ending = subst HasEnded (sym q.1) tt in
        (alike s.program m Looked t a.limits a.steps safe.mutated (whole g a s h) ended).1 (goes_past t q.0) ∙ sym (said.reaches m)

    mutant_run_of : (k : ℕ) (t : Test) → Both t → IsRunOf old (mutant_at t) (mutant_tried a s old made (k, t))
    mutant_run_of k t q =
        let first = original_own k t q.0 in
        let steps = first.said.steps in
        let limit = limit_of (known (original_tried a s old (k, t))).steps in
        let own = own_run same say old true_old k (mutant_asked s.files s.program made t a.limits limit) (mutant g a s h m of made at t limit q.0) in
        let said = own.said in
        record {
          is = ap (λ (n : ℕ). kept_of old (mutant_in t n)) (sym steps) ∙ own.kept_is;
          state = ap is_some said.detects ∙ ap (λ (n : ℕ). let r = run (mutant_in t n) in is_some (detected r.ending)) steps;
        }

    abbrev has : ℕ × Test → Bool
    has t = has_reached m (known (original_tried a s old t))

    covering_are : AreRunsOf old (covering_runs (trial_of a s m made)) (map (mutant_tried a s old made) (covering a s old m))
    covering_are = chosen_are old mutant_at (λ x. reaches m (run x)) (mutant_tried a s old made) has Both (λ k t q. (reached_alike k t q, mutant_run_of k t q)) 0 s.tests both

    needed_kept : (all : Bool) → flat_map (kept_of old) (wanted all (trial_of a s m made)) ≡ map kept (needed says all (map (mutant_tried a s old made) (covering a s old m)))
    needed_kept all =
        let tried = map (mutant_tried a s old made) (covering a s old m) in
        kept_are old (wanted all (trial_of a s m made)) (needed says all tried)
        (wanted_are old all (trial_of a s m made) tried covering_are (needed_are old (covering_runs (trial_of a s m made)) tried covering_are))

  -- ---- all mutants

  one_kept : (all : Bool) (m : Mutant) → IsOfFile s.program m → (o : Option (Class × List ℕ)) → viable_file s.program m ≡ o
      → flat_map (kept_of old) (flat_map (wanted all) (option_map_or (λ made. trial_of a s m made ∷ []) o []))
      ≡ map kept (needed says all (option_map_or (λ made. map (mutant_tried a s old made) (covering a s old m)) o []))
  one_kept all m of None e = refl
  one_kept all m of (Some made) e = ap (flat_map (kept_of old)) (append-nil (wanted all (trial_of a s m made))) ∙ needed_kept m of made e all

  mutants_kept : (all : Bool) (ms : List Mutant) → AllByRecursion (IsOfFile s.program) ms
      → flat_map (kept_of old) (flat_map (wanted all) (flat_map (trials_of a s) ms)) ≡ map kept (needed_of_all says all (map (mutant_runs a s old) ms))
  mutants_kept all [] q = refl
  mutants_kept all (m ∷ ms) q =
      ap (flat_map (kept_of old)) (flat_map-append (wanted all) (trials_of a s m) (flat_map (trials_of a s) ms))
      ∙ flat_map-append (kept_of old) (flat_map (wanted all) (trials_of a s m)) (flat_map (wanted all) (flat_map (trials_of a s) ms))
      ∙ (λ i. one_kept all m q.0 (viable_file s.program m) refl i ++ mutants_kept all ms q.1 i)
      ∙ sym (kept_joined (needed says all (mutant_runs a s old m)) (needed_of_all says all (map (mutant_runs a s old) ms)))

  one_cells : (m : Mutant) → IsOfFile s.program m → (o : Option (Class × List ℕ)) → viable_file s.program m ≡ o
      → length (option_map_or (λ made. map (mutant_tried a s old made) (covering a s old m)) o []) ≡ sum_by reach (option_map_or (λ made. trial_of a s m made ∷ []) o [])
  one_cells m of None e = refl
  one_cells m of (Some made) e =
      as_many old (covering_runs (trial_of a s m made)) (map (mutant_tried a s old made) (covering a s old m)) (covering_are m of made e)
      ∙ sym (one_reach (trial_of a s m made))

  mutants_cells : (ms : List Mutant) → AllByRecursion (IsOfFile s.program) ms → sum_by length (map (mutant_runs a s old) ms) ≡ sum_by reach (flat_map (trials_of a s) ms)
  mutants_cells [] q = refl
  mutants_cells (m ∷ ms) q =
      sum_by-cons length (mutant_runs a s old m) (map (mutant_runs a s old) ms)
      ∙ (λ i. one_cells m q.0 (viable_file s.program m) refl i + mutants_cells ms q.1 i)
      ∙ sym (sum_by-append reach (trials_of a s m) (flat_map (trials_of a s) ms))

  of_files : AllByRecursion (IsOfFile s.program) s.mutants
  of_files = recursion_from_All (IsOfFile s.program) s.mutants h.mutants

  pub cells_are : cell_total (job_runs a s old) ≡ asked_cells (asked_job a s)
  unfolding job_runs asked_job
  cells_are = mutants_cells s.mutants of_files

  wanted_kept : (all : Bool) → flat_map (kept_of old) (map original_at s.tests ++ flat_map (wanted all) (flat_map (trials_of a s) s.mutants)) ≡ map kept (need says all (job_runs a s old))
  unfolding job_runs
  wanted_kept all =
      flat_map-append (kept_of old) (map original_at s.tests) (flat_map (wanted all) (flat_map (trials_of a s) s.mutants))
      ∙ (λ i. originals_from 0 s.tests both i ++ mutants_kept all s.mutants of_files i)
      ∙ sym (kept_joined (map (original_tried a s old) (numbered s)) (needed_of_all says all (map (mutant_runs a s old) s.mutants)))

  need_is : (all : Bool) → need_of all (asked_job a s) ≡ map original_at s.tests ++ flat_map (wanted all) (flat_map (trials_of a s) s.mutants)
  unfolding asked_job asked_need all_runs
  need_is false = refl
  need_is true = refl

  pub need_kept : (all : Bool) → flat_map (kept_of old) (need_of all (asked_job a s)) ≡ map kept (need says all (job_runs a s old))
  need_kept all = ap (flat_map (kept_of old)) (need_is all) ∙ wanted_kept all

  all_are : (all : Bool) → all_kept old (need_of all (asked_job a s)) ≡ once_behind [] (map kept (need says all (job_runs a s old)))
  unfolding all_kept
  all_are all = ap (once_behind []) (need_kept all)

  pub records_as_asked : OldHaveNoPart → (all : Bool) → map (λ (k : Kept). k.entry) (once_behind [] (map kept (need says all (job_runs a s old)))) ≡ new_records (need_of all (asked_job a s))
  records_as_asked apart all = sym (ap (map (λ (k : Kept). k.entry)) (all_are all)) ∙ apart old (need_of all (asked_job a s))

  pub reused_as_asked : (all : Bool) → length (filter (λ (k : Kept). k.is_old) (once_behind [] (map kept (need says all (job_runs a s old))))) ≡ reused old (need_of all (asked_job a s))
  reused_as_asked all = sym (ap (λ (ks : List Kept). length (filter (λ (k : Kept). k.is_old) ks)) (all_are all))

pub answers_as_asked : AnswersAreOfAllTests → Given → ReuseChangesNothing → RecordsSayRuns → ReachingIsAlike → OldHaveNoPart → AnswersAreAsAsked
answers_as_asked tests g same say alike apart a s old h true_old none =
    let t = tests a s old h true_old in
    let pass = t.green none in
    record {
      cells = cells_are g same say alike a s old h true_old pass;
      records = λ all x e.
          let told = answered a s old all x e in
          ap (λ y. y.records) told.is ∙ sym (records_are (need says all (job_runs a s old))) ∙ records_as_asked g same say alike a s old h true_old pass apart all;
      reused = λ all. sym (reused_are (need says all (job_runs a s old))) ∙ reused_as_asked g same say alike a s old h true_old pass all;
    }

-- ---- what a refusal costs

steps_case : (x : Asked) (o : Option RunRecord) (n : ℕ) → (if is_some (option_map (with_limit x.limit) o) then 0 else n) ≡ (if is_some o then 0 else n)
steps_case x None n = refl
steps_case x (Some r) n = refl

one_cost : (old : List RunRecord) (k : ℕ) (x : Asked) → cost_of_run steps_of (tried_on old k x) ≡ asked_steps old x
unfolding asked_steps
one_cost old k x = steps_case x (first_match old x) (run x).steps

originals_cost : (a : Allowed) (s : Suite) (old : List RunRecord) (n : ℕ) (ts : List Test)
    → cost_of steps_of (map (original_tried a s old) (enumerate_from n ts)) ≡ sum_by (asked_steps old) (map (λ t. original_asked s.files s.program t a.limits a.steps) ts)
originals_cost a s old n [] = refl
originals_cost a s old n (t ∷ ts) =
    let x = original_asked s.files s.program t a.limits a.steps in
    (λ i. one_cost old n x i + originals_cost a s old (n + 1) ts i)
    ∙ sym (sum_by-cons (asked_steps old) x (map (λ u. original_asked s.files s.program u a.limits a.steps) ts))

pub refusals_cost : RefusalsCostOriginals
unfolding job_runs asked_job
refusals_cost a s old all refusal e =
    ap (λ (r : Result JobAnswer JobRefusal). cost_by all (job_runs a s old) r) e
    ∙ ap exactly (originals_cost a s old 0 s.tests)
