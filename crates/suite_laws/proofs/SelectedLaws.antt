-- The verdict on a mutant by the runs of all tests is that by the tests whose original runs reach
-- its line.
use Rattle.std.proofs.Common.{◌≡◌, ◌∙◌, refl, sym, ap, subst, ℕ, ◌+◌, Bool, true, false, List, [], ◌∷◌, map, Option, None, ⊎_elim}
use Rattle.std.specs.Prelude.{cond, filter}
use Rattle.std.specs.List.{AllByRecursion, enumerate_from}
use Rattle.std.specs.Option.{option_map, option_map_or, option_or}
use Rattle.std.proofs.lemmas.List.Elements.{recursion_from_All}
use Rattle.machine_rules.specs.declared.machine.Limits.{Limits}
use Rattle.machine_rules.specs.Outcomes.{Passed}
use Rattle.program_rules.specs.Programs.{Look}
use Rattle.machine_rules.specs.Runs.{With, Ran}
use Rattle.machine_laws.specs.FrameLaw.{HasEnded}
use Rattle.class_table.specs.declared.scripted.Test.{Test}
use Rattle.class_link.specs.Info.{Info}
use Rattle.mutator_ops.specs.declared.mutant.Mutant.{Mutant}
use Rattle.mutator_ops.specs.declared.mutant.State.{State}
use Rattle.suite_program.specs.Below.{timed, runs_on, reaches, detected}
use Rattle.suite_program.specs.Below.{covering, killer, verdict_by, verdict_of_runs, not_viable, verdict_of}
use Rattle.suite_laws.specs.Covered.{original_run, edited_run, UnreachedIsAlike, NotStuckThere, ReachingIsAlike, CoveringIsAlike, runs_of, SelectedSuffice}

-- ---- lists of runs

covers_case : (m : Mutant) (n : ℕ) (r : Ran) (runs : List (ℕ × Ran)) (tests : List (ℕ × Test)) (t : Test) (b : Bool) → reaches m r ≡ b → covering m runs ≡ map (λ t. t.0) tests → covering m ((n, r) ∷ runs) ≡ map (λ t. t.0) (cond b ((n, t) ∷ tests) tests)
covers_case m n r runs tests t true e rest = ap (λ b. map (λ (r : ℕ × Ran). r.0) (cond b ((n, r) ∷ filter (λ r. reaches m r.1) runs) (filter (λ r. reaches m r.1) runs))) e ∙ ap (λ ns. n ∷ ns) rest
covers_case m n r runs tests t false e rest = ap (λ b. map (λ (r : ℕ × Ran). r.0) (cond b ((n, r) ∷ filter (λ r. reaches m r.1) runs) (filter (λ r. reaches m r.1) runs))) e ∙ rest

module _ (p : List Info) (m : Mutant) (p' : Look) (q : Limits) (limit : ℕ) where
  abbrev before : Test → Ran
  before t = original_run p t q limit

  abbrev after : Test → Ran
  after t = edited_run p p' t q limit

  abbrev reaching : ℕ × Test → Bool
  reaching t = reaches m (before t.1)

  kills_case : (n : ℕ) (t : Test) (runs : List (ℕ × Ran)) (tests : List (ℕ × Test)) (b : Bool) → (b ≡ false → detected (after t).ending ≡ None) → killer runs ≡ killer (runs_of p p' q limit tests)
      → killer ((n, after t) ∷ runs) ≡ killer (runs_of p p' q limit (cond b ((n, t) ∷ tests) tests))
  kills_case n t runs tests true none rest = ap (option_or (option_map (λ s. (n, s)) (detected (after t).ending))) rest
  kills_case n t runs tests false none rest = ap (λ (o : Option State). option_or (option_map (λ s. (n, s)) o) (killer runs)) (none refl) ∙ rest

  abbrev steps_of : List Test → List ℕ
  steps_of tests = map (λ t. (before t).steps) tests

  abbrev Passes : Test → Type 0
  Passes t = (before t).ending ≡ With Passed

  -- a test's run on the mutant reaches the line as its original run does
  abbrev Alike : Test → Type 0
  Alike t = reaches m (after t) ≡ reaches m (before t)

  module _ (same : (t : Test) → HasEnded (before t).ending → reaches m (before t) ≡ false → after t ≡ before t) where
    has_ended : (t : Test) → Passes t → HasEnded (before t).ending
    has_ended t h = subst HasEnded (sym h) tt

    covering_is : (n : ℕ) (tests : List Test) → AllByRecursion Alike tests → covering m (enumerate_from n (runs_on q p' (timed tests (steps_of tests)))) ≡ map (λ t. t.0) (filter reaching (enumerate_from n tests))
    covering_is n [] h = refl
    covering_is n (t ∷ tests) h =
        covers_case m n (after t) (enumerate_from (n + 1) (runs_on q p' (timed tests (steps_of tests)))) (filter reaching (enumerate_from (n + 1) tests)) t (reaches m (before t)) h.0 (covering_is (n + 1) tests h.1)

    not_detected : (t : Test) → Passes t → reaches m (before t) ≡ false → detected (after t).ending ≡ None
    not_detected t h miss = ap detected (ap (λ (r : Ran). r.ending) (same t (has_ended t h) miss) ∙ h)

    killer_is : (n : ℕ) (tests : List Test) → AllByRecursion Passes tests → killer (enumerate_from n (runs_on q p' (timed tests (steps_of tests)))) ≡ killer (runs_of p p' q limit (filter reaching (enumerate_from n tests)))
    killer_is n [] h = refl
    killer_is n (t ∷ tests) h =
        kills_case n t (enumerate_from (n + 1) (runs_on q p' (timed tests (steps_of tests)))) (filter reaching (enumerate_from (n + 1) tests)) (reaches m (before t)) (not_detected t h.0) (killer_is (n + 1) tests h.1)

-- ---- the verdict

module _ (p : List Info) (m : Mutant) (p' : Look) (q : Limits) (limit : ℕ) where
  abbrev GoesPast : Test → Type 0
  GoesPast t = NotStuckThere m (edited_run p p' t q limit)

  both_ways : (tests : List Test) → ((t : Test) → HasEnded (original_run p t q limit).ending → GoesPast t → Alike p m p' q limit t)
      → AllByRecursion (Passes p m p' q limit) tests → AllByRecursion GoesPast tests → AllByRecursion (Alike p m p' q limit) tests
  both_ways [] h pass past = tt
  both_ways (t ∷ tests) h pass past = (h t (subst HasEnded (sym pass.0) tt) past.0, both_ways tests h pass.1 past.1)

  each_way : (tests : List Test) → ((t : Test) → HasEnded (original_run p t q limit).ending → Alike p m p' q limit t) → AllByRecursion (Passes p m p' q limit) tests → AllByRecursion (Alike p m p' q limit) tests
  each_way [] h pass = tt
  each_way (t ∷ tests) h pass = (h t (subst HasEnded (sym pass.0) tt), each_way tests h pass.1)

pub selected_suffice : UnreachedIsAlike → ReachingIsAlike → CoveringIsAlike → SelectedSuffice
unfolding verdict_of verdict_of_runs
selected_suffice unreached reaching covers p m p' q limit tests y accepted whole pass smooth =
    let all = recursion_from_All (λ t. (original_run p t q limit).ending ≡ With Passed) tests pass in
    let alike : AllByRecursion (Alike p m p' q limit) tests =
    ⊎_elim (λ jumps. each_way p m p' q limit tests (λ t h. covers p m p' t q limit y jumps whole h) all)
    (λ past. both_ways p m p' q limit tests (λ t h. (reaching p m p' t q limit y whole h).1) all (recursion_from_All (GoesPast p m p' q limit) tests past)) smooth in
    let same : (t : Test) → HasEnded (original_run p t q limit).ending → reaches m (original_run p t q limit) ≡ false → edited_run p p' t q limit ≡ original_run p t q limit = λ t h. unreached p m p' t q limit y whole h in
    let timed_tests = timed tests (map (λ t. (original_run p t q limit).steps) tests) in
    ap (λ o. option_map_or (verdict_of_runs m) (option_map (λ made. runs_on q made timed_tests) o) not_viable) accepted
    ∙ ap (λ ns. verdict_by ns (killer (enumerate_from 0 (runs_on q p' timed_tests)))) (covering_is p m p' q limit same 0 tests alike)
    ∙ ap (verdict_by _) (killer_is p m p' q limit same 0 tests all)
