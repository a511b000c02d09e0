-- The tests that detect a mutant are all whose runs on it do, and each of them covers it.
use Rattle.std.proofs.Common.{◌≡◌, ◌∙◌, ℕ, Bool, true, false, cond, List, [], ◌∷◌, map, Option, Some, None, refl, sym, ap, subst}
use Rattle.std.specs.Prelude.{filter}
use Rattle.std.specs.List.{AllByRecursion}
use Rattle.std.specs.Option.{option_map_or}
use Rattle.class_model.specs.declared.class.Class.{Class}
use Rattle.program_rules.specs.Programs.{Look}
use Rattle.machine_rules.specs.Runs.{Ending, Ran, limit_of}
use Rattle.machine_laws.specs.FrameLaw.{HasEnded}
use Rattle.class_table.specs.declared.scripted.Test.{Test}
use Rattle.class_table.specs.Table.{look}
use Rattle.mutator_ops.specs.declared.mutant.Mutant.{Mutant}
use Rattle.mutator_ops.specs.declared.mutant.State.{State}
use Rattle.suite_records.specs.Below.{SelectedAlwaysSuffice, UnreachedIsAlike, original_run, AllPass, ReachingIsAlike, with_class, mutant_run, reaches, detected}
use Rattle.record_rules.specs.declared.record.RunRecord.{RunRecord}
use Rattle.record_rules.specs.Records.{Asked, run}
use Rattle.reuse_laws.specs.Jobs.{AreTrue}
use Rattle.class_records.specs.Profile.{profile}
use Rattle.suite_records.specs.Suites.{mutant_asked}
use Rattle.job_rules.specs.Tried.{Tried, known, saying, detections_in}
use Rattle.suite_jobs.specs.Jobs.{Suite, Allowed, IsOfFile, IsAccepted, says, has_reached, numbered, original_tried, covering, viable_file, mutant_tried, detecting}
use Rattle.suite_jobs.specs.Laws.{RecordsSayRuns, SaysAllTests, DetectionsAreOfAllTests}
use Rattle.suite_jobs.proofs.Own.{Given, is_safe_mutant, whole}
use Rattle.suite_jobs.proofs.Verdicts.{original_said, mutant_said}
use Rattle.suite_jobs.proofs.Spent.{Both, both, reached_alike}

-- What a run says of the mutant, with its test's number before what others say.
said_case : (n : ℕ) (rest : List (ℕ × Option State)) (found : List (ℕ × State)) (o : Option State) → detections_in true rest ≡ found → detections_in true ((n, o) ∷ rest) ≡ option_map_or (λ state. (n, state) ∷ found) o found
said_case n rest found None e = e
said_case n rest found (Some state) e = ap (λ (ds : List (ℕ × State)). (n, state) ∷ ds) e

module _ (g : Given) (say : RecordsSayRuns) (suffice : SelectedAlwaysSuffice) (alike : ReachingIsAlike) (unreached : UnreachedIsAlike) (a : Allowed) (s : Suite) (old : List RunRecord) (h : IsAccepted s) (true_old : AreTrue profile old) (pass : AllPass s.program a.limits a.steps s.tests) (m : Mutant) (of : IsOfFile s.program m) (made : Class × List ℕ) (at : viable_file s.program m ≡ Some made) where
  abbrev Looked : Look
  Looked = with_class made.0 (look s.program)

  abbrev mutant_at : Test → Asked
  mutant_at t = mutant_asked s.files s.program made t a.limits (limit_of (original_run s.program t a.limits a.steps).steps)

  abbrev ran : ℕ × Test → Ran
  ran t = run (mutant_at t.1)

  abbrev tried : ℕ × Test → Tried RunRecord
  tried t = mutant_tried a s old made t

  abbrev has : ℕ × Test → Bool
  has t = has_reached m (known (original_tried a s old t))

  abbrev Passing : ℕ × Test → Type 0
  Passing t = Both g say suffice alike a s old h true_old pass t

  -- A test that doesn't reach the mutant's line runs on the mutant as on the program, so it passes.
  quiet : (t : ℕ × Test) → Passing t → has t ≡ false → detected (ran t).ending ≡ None
  unfolding mutant_run
  quiet t q e =
      let safe = is_safe_mutant g a s old h true_old m of made at in
      let said = original_said g say suffice a s old h true_old pass t q.0 in
      let ended : HasEnded (original_run s.program t.1 a.limits a.steps).ending = subst HasEnded (sym q.1) tt in
      ap (λ (r : Ran). detected r.ending)
      (unreached s.program m Looked t.1 a.limits a.steps safe.mutated (whole g a s old h true_old) ended (sym (said.reaches m) ∙ e))
      ∙ ap (λ (x : Ending). detected x) q.1

  says_so : (t : ℕ × Test) → Passing t → says (known (tried t)) ≡ detected (ran t).ending
  unfolding mutant_run
  says_so t q = let said = mutant_said g say suffice a s old h true_old pass m of made at t q.0 in said.1

  -- ---- the tests that cover it

  abbrev runs : List (ℕ × Test) → List (ℕ × Ran)
  runs ts = map (λ (t : ℕ × Test). (t.0, ran t)) ts

  abbrev reached : List (ℕ × Ran) → List (ℕ × Ran)
  reached rs = filter (λ (r : ℕ × Ran). reaches m r.1) rs

  abbrev numbers : List (ℕ × Ran) → List ℕ
  numbers rs = map (λ (r : ℕ × Ran). r.0) rs

  abbrev tests_in : List (ℕ × Test) → List ℕ
  tests_in ts = map (λ (t : Tried RunRecord). t.test) (map tried ts)

  chosen_case : (t : ℕ × Test) (ts : List (ℕ × Test)) (rs : List (ℕ × Ran)) (b : Bool) → tests_in ts ≡ numbers rs → tests_in (cond b (t ∷ ts) ts) ≡ numbers (cond b ((t.0, ran t) ∷ rs) rs)
  chosen_case t ts rs true e = ap (λ (ns : List ℕ). t.0 ∷ ns) e
  chosen_case t ts rs false e = e

  covering_from : (ts : List (ℕ × Test)) → AllByRecursion Passing ts → tests_in (filter has ts) ≡ numbers (reached (runs ts))
  covering_from [] q = refl
  covering_from (t ∷ ts) q =
      let others = filter has ts in
      let rest = reached (runs ts) in
      subst (λ (b : Bool). tests_in (cond (has t) (t ∷ others) others) ≡ numbers (cond b ((t.0, ran t) ∷ rest) rest))
      (sym (reached_alike g say suffice alike a s old h true_old pass m of made at t q.0))
      (chosen_case t others rest (has t) (covering_from ts q.1))

  -- ---- the tests that detect it

  abbrev found_in : List (ℕ × Test) → List (ℕ × State)
  found_in ts = detections_in true (map (saying says) (map tried ts))

  detected_case : (t : ℕ × Test) (ts : List (ℕ × Test)) (found : List (ℕ × State)) (b : Bool) → Passing t → has t ≡ b → found_in ts ≡ found
      → found_in (cond b (t ∷ ts) ts) ≡ option_map_or (λ state. (t.0, state) ∷ found) (detected (ran t).ending) found
  detected_case t ts found true q e same =
      let rest = map (saying says) (map tried ts) in
      subst (λ (o : Option State). detections_in true ((t.0, says (known (tried t))) ∷ rest) ≡ option_map_or (λ state. (t.0, state) ∷ found) o found) (says_so t q)
      (said_case t.0 rest found (says (known (tried t))) same)
  detected_case t ts found false q e same =
      same ∙ sym (ap (λ (o : Option State). option_map_or (λ state. (t.0, state) ∷ found) o found) (quiet t q e))

  detected_from : (ts : List (ℕ × Test)) → AllByRecursion Passing ts → found_in (filter has ts) ≡ detecting (runs ts)
  detected_from [] q = refl
  detected_from (t ∷ ts) q = detected_case t (filter has ts) (detecting (runs ts)) (has t) q.0 refl (detected_from ts q.1)

  says_all : SaysAllTests a s m made (map tried (covering a s old m))
  says_all =
      let passing = both g say suffice alike a s old h true_old pass in
      record { covering = covering_from (numbered s) passing; detections = detected_from (numbered s) passing }

pub of_all_tests : Given → RecordsSayRuns → SelectedAlwaysSuffice → ReachingIsAlike → UnreachedIsAlike → DetectionsAreOfAllTests
of_all_tests g say suffice alike unreached a s old h true_old pass m of made at =
    subst (λ (o : Option (Class × List ℕ)). SaysAllTests a s m made (option_map_or (λ made. map (mutant_tried a s old made) (covering a s old m)) o [])) (sym at)
    (says_all g say suffice alike unreached a s old h true_old pass m of made at)
