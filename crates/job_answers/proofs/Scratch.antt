-- Where all old records are true, a job answers what the runs of all tests say.
use Rattle.std.proofs.Common.{◌≡◌, ◌∙◌, ◌⊎◌, inl, inr, ℕ, ◌+◌, Bool, true, false, List, [], ◌∷◌, ◌++◌, map, Option, Some, None, refl, sym, ap, ap₂, subst}
use Rattle.std.specs.Prelude.{All}
use Rattle.std.specs.List.{AllByRecursion, flat_map, enumerate_from}
use Rattle.std.specs.Option.{option_map_or, unwrap_or}
use Rattle.std.proofs.lemmas.List.Concat.{flat_map-cons}
use Rattle.std.proofs.lemmas.List.Elements.{All-nil, All-cons, All-head, All-tail, recursion_from_All}
use Rattle.class_model.specs.declared.class.Class.{Class}
use Rattle.class_model.specs.declared.outcome.Outcome.{Outcome}
use Rattle.class_model.specs.declared.outcome.Outcome.TheVariants.{Passed, Failed, TimedOut, MemoryOut}
use Rattle.machine_rules.specs.Outcomes as machine
use Rattle.machine_rules.specs.Runs.{Ending, With, StuckAt}
use Rattle.class_table.specs.declared.scripted.Test.{Test}
use Rattle.mutator_ops.specs.declared.mutant.Mutant.{Mutant}
use Rattle.mutator_ops.specs.declared.mutant.State.{State}
use Rattle.mutator_ops.specs.declared.mutant.Verdict.{Verdict}
use Rattle.suite_jobs.specs.Below.{AllPass, original_run, verdict_by, not_viable}
use Rattle.class_records.specs.Profile.{profile}
use Rattle.reuse_laws.specs.Jobs.{AreTrue}
use Rattle.record_rules.specs.Jobs.{cost}
use Rattle.record_rules.specs.declared.record.RunRecord.{RunRecord}
use Rattle.record_rules.specs.Outcomes.{outcome_at}
use Rattle.job_rules.specs.Tried.{Tried, known, saying, detections, detections_in, needed, need_cost, cost_of, cost_of_all, least_cost}
use Rattle.suite_jobs.specs.Jobs.{Allowed, Suite, IsAccepted, IsOfFile, asked_job, every_run, says, first_of, original_tried, viable_file, mutant_runs, job_runs, verdict_on, job_verdict}
use Rattle.suite_jobs.specs.Laws.{IsOwn, RunsAreOwn, VerdictsAreOfAllTests, DetectionsAreOfAllTests, JobsCostAsAsked, CostsAsAsked as JobCosts, steps_of}
use Rattle.job_answers.specs.declared.refusal.FailedTest.{FailedTest}
use Rattle.job_answers.specs.Answers.{verdict_with, verdict_of_runs, verdict_in, verdict_by_every, verdict_of_every, verdicts_anew, need_of, unless_passed, failed_by, cost_by}
use Rattle.job_answers.specs.Laws.{AnswersAreOfAllTests, CostsAreAsAsked}
use Rattle.job_answers.proofs.Answered.{answered}

-- ---- verdicts by the first detection

-- At most one is asked for.
abbrev IsOne : List (ℕ × State) → Type 0
IsOne ds = (ds ≡ []) ⊎ ((d : ℕ × State) × (ds ≡ d ∷ []))

one_asked : (said : List (ℕ × Option State)) → IsOne (detections_in false said)
one_asked [] = inl refl
one_asked ((test, None) ∷ said) = one_asked said
one_asked ((test, Some state) ∷ said) = inr ((test, state), refl)

with_none : (cov : List ℕ) → verdict_with cov [] ≡ verdict_by cov None
with_none [] = refl
with_none (n ∷ ns) = refl

with_one : (cov : List ℕ) (d : ℕ × State) → (cov ≡ [] → ⊥) → verdict_with cov (d ∷ []) ≡ verdict_by cov (Some d)
with_one [] d h = absurd (h refl)
with_one (n ∷ ns) d h = refl

verdict_one : (cov : List ℕ) (ds : List (ℕ × State)) → (cov ≡ [] → ds ≡ []) → IsOne ds → verdict_with cov ds ≡ verdict_by cov (first_of ds)
verdict_one cov ds h (inl e) = subst (λ (xs : List (ℕ × State)). verdict_with cov xs ≡ verdict_by cov (first_of xs)) (sym e) (with_none cov)
verdict_one cov ds h (inr p) =
    subst (λ (xs : List (ℕ × State)). verdict_with cov xs ≡ verdict_by cov (first_of xs)) (sym p.1)
    (with_one cov p.0 (λ none. let f : p.0 ∷ [] ≡ [] = sym p.1 ∙ h none in absurd cc))

none_covers : (ts : List (Tried RunRecord)) → map (λ (t : Tried RunRecord). t.test) ts ≡ [] → detections says false ts ≡ []
none_covers [] e = refl
none_covers (t ∷ ts) e = absurd cc

one_verdict : (ts : List (Tried RunRecord)) → verdict_of_runs false ts ≡ verdict_on ts
one_verdict ts = verdict_one (map (λ (t : Tried RunRecord). t.test) ts) (detections says false ts) (none_covers ts) (one_asked (map (saying says) ts))

verdicts_one : (a : Allowed) (s : Suite) (old : List RunRecord) (ms : List Mutant) → map (verdict_in a s old false) ms ≡ map (job_verdict a s old) ms
verdicts_one a s old [] = refl
verdicts_one a s old (m ∷ ms) =
    ap₂ (λ (v : Verdict) (vs : List Verdict). v ∷ vs)
    (ap (λ (v : Verdict). option_map_or (λ (made : Class × List ℕ). v) (viable_file s.program m) not_viable) (one_verdict (mutant_runs a s old m)))
    (verdicts_one a s old ms)

-- ---- tests that pass

passed_end : (e : Ending) → unwrap_or (outcome_at e) MemoryOut ≡ Passed → e ≡ With machine.Passed
passed_end (With machine.Passed) h = refl
passed_end (With (machine.Failed c)) h = absurd cc
passed_end (With machine.TimedOut) h = absurd cc
passed_end (With machine.MemoryOut) h = absurd cc
passed_end (StuckAt place) h = absurd cc

none_failed : (k : ℕ) (o : Outcome) → unless_passed k o ≡ [] → o ≡ Passed
none_failed k Passed e = refl
none_failed k (Failed c) e = absurd cc
none_failed k TimedOut e = absurd cc
none_failed k MemoryOut e = absurd cc

both_none : (xs ys : List FailedTest) → xs ++ ys ≡ [] → (xs ≡ []) × (ys ≡ [])
both_none [] ys e = (refl, e)
both_none (x ∷ xs) ys e = absurd cc

module _ (a : Allowed) (s : Suite) (old : List RunRecord) where
  abbrev Passes : Test → Type 0
  Passes t = (original_run s.program t a.limits a.steps).ending ≡ With machine.Passed

  green_from : (n : ℕ) (ts : List Test) → All IsOwn (map (original_tried a s old) (enumerate_from n ts)) → flat_map failed_by (map (original_tried a s old) (enumerate_from n ts)) ≡ [] → All Passes ts
  green_from n [] own e = All-nil Passes
  green_from n (t ∷ ts) own e =
      let tried = original_tried a s old (n, t) in
      let others = map (original_tried a s old) (enumerate_from (n + 1) ts) in
      let head = All-head IsOwn tried others own in
      let parts = both_none (failed_by tried) (flat_map failed_by others) (sym (flat_map-cons failed_by tried others) ∙ e) in
      let passed : tried.made.outcome ≡ Passed = ap (λ (r : RunRecord). r.outcome) (sym head.known_is) ∙ none_failed n (known tried).outcome parts.0 in
      All-cons Passes t ts (passed_end (original_run s.program t a.limits a.steps).ending passed) (green_from (n + 1) ts (All-tail IsOwn tried others own) parts.1)

  passing_from : (n : ℕ) (ts : List Test) → All IsOwn (map (original_tried a s old) (enumerate_from n ts)) → All Passes ts → flat_map failed_by (map (original_tried a s old) (enumerate_from n ts)) ≡ []
  passing_from n [] own pass = refl
  passing_from n (t ∷ ts) own pass =
      let tried = original_tried a s old (n, t) in
      let others = map (original_tried a s old) (enumerate_from (n + 1) ts) in
      let head = All-head IsOwn tried others own in
      let made : tried.made.outcome ≡ Passed = ap (λ (e : Ending). unwrap_or (outcome_at e) MemoryOut) (All-head Passes t ts pass) in
      let passed : (known tried).outcome ≡ Passed = ap (λ (r : RunRecord). r.outcome) head.known_is ∙ made in
      flat_map-cons failed_by tried others
      ∙ ap₂ (λ (xs ys : List FailedTest). xs ++ ys) (ap (unless_passed n) passed) (passing_from (n + 1) ts (All-tail IsOwn tried others own) (All-tail Passes t ts pass))

-- ---- verdicts by all detections

module _ (law : DetectionsAreOfAllTests) (a : Allowed) (s : Suite) (old : List RunRecord) (h : IsAccepted s) (true_old : AreTrue profile old) (pass : AllPass s.program a.limits a.steps s.tests) where
  every_case : (m : Mutant) → IsOfFile s.program m → (o : Option (Class × List ℕ)) → viable_file s.program m ≡ o
      → option_map_or (λ made. verdict_of_runs true (mutant_runs a s old m)) o not_viable ≡ option_map_or (λ made. verdict_by_every m (every_run a s made)) o not_viable
  every_case m of None e = refl
  every_case m of (Some made) e =
      let said = law a s old h true_old pass m of made e in
      let covering = said.covering in
      let detections = said.detections in
      (λ i. verdict_with (covering i) (detections i))

  verdicts_every : (ms : List Mutant) → AllByRecursion (IsOfFile s.program) ms → map (verdict_in a s old true) ms ≡ map (verdict_of_every a s) ms
  verdicts_every [] q = refl
  verdicts_every (m ∷ ms) q = λ i. every_case m q.0 (viable_file s.program m) refl i ∷ verdicts_every ms q.1 i

verdicts_are : VerdictsAreOfAllTests → DetectionsAreOfAllTests → (a : Allowed) (s : Suite) (old : List RunRecord) → IsAccepted s → AreTrue profile old → AllPass s.program a.limits a.steps s.tests → (all : Bool) → map (verdict_in a s old all) s.mutants ≡ verdicts_anew all a s
verdicts_are law every a s old h true_old pass false = verdicts_one a s old s.mutants ∙ law a s old h true_old pass
verdicts_are law every a s old h true_old pass true = verdicts_every every a s old h true_old pass s.mutants (recursion_from_All (IsOfFile s.program) s.mutants h.mutants)

pub of_all_tests : RunsAreOwn → VerdictsAreOfAllTests → DetectionsAreOfAllTests → AnswersAreOfAllTests
unfolding job_runs
of_all_tests own law every a s old h true_old =
    let mine = own a s old h true_old in
    let green = green_from a s old 0 s.tests mine.originals in
    record {
      green = green;
      passing = passing_from a s old 0 s.tests mine.originals;
      verdicts = λ all x e.
          let told = answered a s old all x e in
          ap (λ y. y.verdicts) told.is ∙ verdicts_are law every a s old h true_old (green told.green) all;
    }

-- ---- what it costs

-- Where all killers are asked for, all runs are needed.
pub all_needed : (ts : List (Tried RunRecord)) → needed says true ts ≡ ts
all_needed [] = refl
all_needed (t ∷ ts) = ap (λ (us : List (Tried RunRecord)). t ∷ us) (all_needed ts)

all_cost : (mutants : List (List (Tried RunRecord))) → need_cost says steps_of true mutants ≡ cost_of_all steps_of mutants
all_cost [] = refl
all_cost (ts ∷ mutants) = λ i. cost_of steps_of (all_needed ts i) + all_cost mutants i

least_is : (all : Bool) (a : Allowed) (s : Suite) (old : List RunRecord) → JobCosts a s old → least_cost says steps_of all (job_runs a s old) ≡ cost old (need_of all (asked_job a s))
least_is false a s old c = c.least
least_is true a s old c = let j = job_runs a s old in ap (λ (n : ℕ). cost_of steps_of j.originals + n) (all_cost j.mutants) ∙ c.most

pub cost_as_asked : AnswersAreOfAllTests → JobsCostAsAsked → CostsAreAsAsked
cost_as_asked tests law a s old all x h true_old e =
    let t = tests a s old h true_old in
    let told = answered a s old all x e in
    let c = law a s old h true_old (t.green told.green) in
    record {
      least = ap (λ r. (cost_by all (job_runs a s old) r).least) e ∙ least_is all a s old c;
      most = ap (λ r. (cost_by all (job_runs a s old) r).most) e ∙ c.most;
    }
