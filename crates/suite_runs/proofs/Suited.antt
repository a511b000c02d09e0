-- What is prepared for the cells of a job, in the words of its suite.
use Rattle.std.proofs.Common.{◌≡◌, ◌∙◌, ℕ, zero, suc, ◌+◌, ◌<◌, Bool, true, false, List, [], ◌∷◌, ◌++◌, length, map, get_or, Option, Some, None, refl, sym, ap, ap₂, subst, arith}
use Rattle.std.specs.Prelude.{All, Result, Ok, Err, is_some, if◌then◌else◌, nat_lt, option_and_then, slice_get, slice_index_or, sum_by, zip}
use Rattle.std.specs.List.{enumerate_from, range_with_len}
use Rattle.std.specs.Option.{option_map, option_map_or}
use Rattle.std.proofs.lemmas.List.Sums.{sum_by-cons}
use Rattle.class_model.specs.declared.class.Class.{Class}
use Rattle.machine_rules.specs.Runs.{limit_of}
use Rattle.type_rules.specs.Faults.{Placed, class_fault}
use Rattle.class_link.specs.Info.{Info, file_in}
use Rattle.class_link.specs.declared.loaded.Loaded.{Loaded}
use Rattle.class_table.specs.declared.scripted.Test.{Test}
use Rattle.class_table.specs.Table.{look, number_of}
use Rattle.line_coverage.specs.Coverage.{Covered}
use Rattle.mutator_ops.specs.declared.mutant.Mutant.{Mutant}
use Rattle.mutant_apply.specs.Edited.{applied}
use Rattle.suite_workers.specs.Below.{files_of, viable, with_accepted, with_class}
use Rattle.suite_workers.specs.Below.{AreViable}
use Rattle.record_rules.specs.declared.record.RunRecord.{RunRecord}
use Rattle.suite_workers.specs.Below.{Allowed, Suite, job_runs, mutant_runs, numbered, original_tried, tried_on, unless_refused, viable_file, asked_on, bytes_of}
use Rattle.job_rules.specs.Tried.{Tried, known, knowns}
use Rattle.suite_workers.specs.Jobs.{CellJob, IsSetupOf, bound_of, covering_numbers}
use Rattle.suite_workers.specs.Old.{no_test, records_in, test_at}
use Rattle.suite_workers.specs.Said.{known_record}
use Rattle.suite_workers.specs.declared.old_records.OldRecords.{OldRecords}
use Rattle.suite_workers.specs.declared.said.KnownRun.{KnownRun}
use Rattle.job_answers.specs.declared.refusal.FailedTest.{FailedTest}
use Rattle.job_answers.specs.declared.refusal.JobRefusal.{JobRefusal}
use Rattle.job_answers.specs.declared.refusal.JobRefusal.TheVariants.{TooManyCells}
use Rattle.job_answers.specs.Answers.{JobAnswer, answer_by, cell_total, failed_tests, job_answer, most_cells, unless_failed, unless_many}
use Rattle.suite_runs.specs.declared.job.SuiteJob.{SuiteJob}
use Rattle.suite_runs.specs.declared.prepared.Prepared.{Prepared}
use Rattle.suite_runs.specs.Covering.{count_all, numbers_of}
use Rattle.suite_runs.specs.Ending.{IsSuiteOf, allowed_in, suite_of}
use Rattle.suite_runs.specs.Failing.{failed_among}
use Rattle.suite_runs.specs.Originals.{all_tried, run_tried}
use Rattle.suite_runs.specs.Preparing.{AreBoundsBy, AreCovered, AreGreen, AreOriginals, IsReadied, RefusesFailed, RefusesMany, cells_by}
use Rattle.suite_runs.specs.Reaching.{CoversKnown}
use Rattle.suite_runs.proofs.CoveringAlike.{numbers_are, count_is}
use Rattle.suite_runs.proofs.VerdictsAlike.{failed_alike}

at_default : {X : Type 0} (xs : List X) (k : ℕ) (d e : X) → k < length xs → slice_index_or xs k d ≡ slice_index_or xs k e
at_default [] k d e lt = absurd (omega (arith, lt))
at_default (x ∷ xs) zero d e lt = refl
at_default (x ∷ xs) (suc k) d e lt = at_default xs k d e (omega (arith, lt))

map_twice : {A B C : Type 0} (f : A → B) (g : B → C) (xs : List A) → map g (map f xs) ≡ map (λ x. g (f x)) xs
map_twice f g [] = refl
map_twice f g (x ∷ xs) = ap (λ ys. g (f x) ∷ ys) (map_twice f g xs)

-- ---- viable mutants

viable_case : (p : List Info) (m : Mutant) (o : Option (Class × List ℕ)) → is_some (option_and_then (with_accepted m.class) (option_map (λ made. with_class made.0 (look p)) o)) ≡ is_some (option_and_then (unless_refused p m) o)
viable_case p m None = refl
viable_case p m (Some made) = fault_case (class_fault (with_class made.0 (look p)) m.class)
  where
    fault_case : (f : Option Placed) → is_some (if is_some f then None else Some (with_class made.0 (look p))) ≡ is_some (if is_some f then None else Some made)
    fault_case None = refl
    fault_case (Some fault) = refl

pub viable_alike : (p : List Info) (m : Mutant) → is_some (viable (files_of p) (look p) m) ≡ is_some (viable_file p m)
viable_alike p m = viable_case p m (option_and_then (λ (c : Class). applied c m.edit) (files_of p m.class))

all_viable : (p : List Info) (ms : List Mutant) → map (λ m. is_some (viable (files_of p) (look p) m)) ms ≡ map (λ m. is_some (viable_file p m)) ms
all_viable p [] = refl
all_viable p (m ∷ ms) = ap₂ (λ (b : Bool) (bs : List Bool). b ∷ bs) (viable_alike p m) (all_viable p ms)

not_there : (p : List Info) (m : Mutant) → number_of p m.class ≡ None → viable_file p m ≡ None
not_there p m e = ap (λ (o : Option ℕ). option_and_then (unless_refused p m) (option_and_then (λ (c : Class). applied c m.edit) (option_and_then (λ id. option_and_then file_in (slice_get p id)) o))) e

-- ---- a suite

module _ (files : List Loaded) (p : List Info) (j : SuiteJob) (old : List RunRecord) (is : IsSuiteOf files p j) where
  abbrev a : Allowed
  a = allowed_in j

  abbrev s : Suite
  s = suite_of files p j

  -- the runs of the tests

  runs_from : (n : ℕ) (ts : List Test) → ((i : ℕ) (d : Test) → i < length ts → test_at j.tests.now (n + i) ≡ get_or ts i d) → map (run_tried p j old) (range_with_len n (length ts)) ≡ map (original_tried a s old) (enumerate_from n ts)
  runs_from n [] h = refl
  runs_from n (t ∷ ts) h =
      let none : n ≡ n + 0 = omega arith in
      let test : test_at j.tests.now n ≡ t = ap (test_at j.tests.now) none ∙ h 0 t (omega arith) in
      ap₂ (λ (u : Tried RunRecord) (us : List (Tried RunRecord)). u ∷ us)
      (λ i. tried_on old n (asked_on (look p) (is.holds i) (test i) j.limits j.steps))
      (runs_from (n + 1) ts (λ i d lt.
      let next : (n + 1) + i ≡ n + suc i = omega arith in
      ap (test_at j.tests.now) next ∙ h (suc i) d (omega (arith, lt))))

  pub runs_alike : all_tried p j old ≡ (job_runs a s old).originals
  unfolding job_runs
  runs_alike = runs_from 0 j.tests.now (λ i d lt.
      let none : 0 + i ≡ i = omega arith in
      ap (test_at j.tests.now) none ∙ at_default j.tests.now i no_test d lt)

  abbrev Knows : List KnownRun → Type 0
  Knows runs = map known_record runs ≡ map known (map (original_tried a s old) (numbered s))

  knows : (runs : List KnownRun) → map known_record runs ≡ knowns (all_tried p j old) → Knows runs
  unfolding job_runs
  knows runs e = e ∙ ap knowns runs_alike

  pub failed_is : (runs : List KnownRun) → map known_record runs ≡ knowns (all_tried p j old) → failed_among (map known_record runs) ≡ failed_tests (job_runs a s old)
  unfolding job_runs
  failed_is runs e = ap failed_among (knows runs e) ∙ failed_alike a s old 0 s.tests

  -- what they may take on mutants

  bounds_by : (ks : List KnownRun) → map (λ (k : KnownRun). limit_of (known_record k).steps) ks ≡ map (λ (r : RunRecord). limit_of r.steps) (map known_record ks)
  bounds_by ks = sym (map_twice known_record (λ (r : RunRecord). limit_of r.steps) ks)

  bounds_of : (ts : List (ℕ × Test)) → map (λ (r : RunRecord). limit_of r.steps) (map known (map (original_tried a s old) ts)) ≡ map (bound_of a s old) ts
  bounds_of [] = refl
  bounds_of (t ∷ ts) = ap (λ (ns : List ℕ). bound_of a s old t ∷ ns) (bounds_of ts)

  pub bounds_are : (runs : List KnownRun) (bounds : List ℕ) → map known_record runs ≡ knowns (all_tried p j old) → AreBoundsBy runs bounds → bounds ≡ map (bound_of a s old) (numbered s)
  bounds_are runs bounds e by = by ∙ bounds_by runs ∙ ap (map (λ (r : RunRecord). limit_of r.steps)) (knows runs e) ∙ bounds_of (numbered s)

  -- the tests that cover mutants

  module _ (runs : List KnownRun) (e : map known_record runs ≡ knowns (all_tried p j old)) (cover : Covered) (covers : CoversKnown p runs cover) where
    one_covered : (m : Mutant) → numbers_of p cover (m, is_some (viable_file p m)) ≡ covering_numbers a s old m
    one_covered m = numbers_are a s old runs cover m covers (knows runs e) (not_there p m)

    all_covered : (ms : List Mutant) → map (numbers_of p cover) (zip ms (map (λ m. is_some (viable_file p m)) ms)) ≡ map (covering_numbers a s old) ms
    all_covered [] = refl
    all_covered (m ∷ ms) = ap₂ (λ (k : List ℕ) (ks : List (List ℕ)). k ∷ ks) (one_covered m) (all_covered ms)

    all_counted : (ms : List Mutant) → count_all p cover (zip ms (map (λ m. is_some (viable_file p m)) ms)) ≡ sum_by length (map (mutant_runs a s old) ms)
    all_counted [] = refl
    all_counted (m ∷ ms) =
        let own : Mutant × Bool → ℕ = λ (x : Mutant × Bool). length (numbers_of p cover x) in
        sum_by-cons own (m, is_some (viable_file p m)) (zip ms (map (λ m. is_some (viable_file p m)) ms))
        ∙ ap₂ (λ (n k : ℕ). n + k) (ap length (one_covered m) ∙ count_is a s old m) (all_counted ms)
        ∙ sym (sum_by-cons length (mutant_runs a s old m) (map (mutant_runs a s old) ms))

    pub covering_are : (bs : List Bool) → AreViable p j.mutants.now bs → map (numbers_of p cover) (zip j.mutants.now bs) ≡ map (covering_numbers a s old) s.mutants
    covering_are bs told = ap (λ (xs : List Bool). map (numbers_of p cover) (zip j.mutants.now xs)) (told ∙ all_viable p j.mutants.now) ∙ all_covered j.mutants.now

    pub cells_are : (bs : List Bool) → AreViable p j.mutants.now bs → count_all p cover (zip j.mutants.now bs) ≡ cell_total (job_runs a s old)
    unfolding job_runs
    cells_are bs told = ap (λ (xs : List Bool). count_all p cover (zip j.mutants.now xs)) (told ∙ all_viable p j.mutants.now) ∙ all_counted j.mutants.now

  -- ---- refusals and answers

  refused_failed : (r : JobRefusal) → (failed : List FailedTest) → failed ≡ failed_tests (job_runs a s old) → ((next : Result JobAnswer JobRefusal) → unless_failed failed next ≡ Err r) → (all : Bool) → job_answer a s old all ≡ Err r
  unfolding job_answer
  refused_failed r failed e h all = ap (λ (ts : List FailedTest). unless_failed ts (unless_many (cell_total (job_runs a s old)) (Ok (answer_by a s old all)))) (sym e) ∙ h (unless_many (cell_total (job_runs a s old)) (Ok (answer_by a s old all)))

  green_with : (next : Result JobAnswer JobRefusal) → failed_tests (job_runs a s old) ≡ [] → unless_failed (failed_tests (job_runs a s old)) next ≡ next
  green_with next e = ap (λ (ts : List FailedTest). unless_failed ts next) e

  pub refused_many : (all : Bool) → failed_tests (job_runs a s old) ≡ [] → nat_lt most_cells (cell_total (job_runs a s old)) ≡ true → job_answer a s old all ≡ Err TooManyCells
  unfolding job_answer
  refused_many all green many =
      green_with (unless_many (cell_total (job_runs a s old)) (Ok (answer_by a s old all))) green
      ∙ ap (λ (b : Bool). if b then Err TooManyCells else Ok (answer_by a s old all)) many

  pub answered_so : (all : Bool) → failed_tests (job_runs a s old) ≡ [] → nat_lt most_cells (cell_total (job_runs a s old)) ≡ false → job_answer a s old all ≡ Ok (answer_by a s old all)
  unfolding job_answer
  answered_so all green few =
      green_with (unless_many (cell_total (job_runs a s old)) (Ok (answer_by a s old all))) green
      ∙ ap (λ (b : Bool). if b then Err TooManyCells else Ok (answer_by a s old all)) few

-- ---- of what is prepared

module _ (files : List Loaded) (p : List Info) (j : SuiteJob) (old : OldRecords) (is : IsSuiteOf files p j) where
  abbrev rs : List RunRecord
  rs = records_in old

  pub green_is : (runs : List KnownRun) → AreGreen p j old runs → failed_tests (job_runs (allowed_in j) (suite_of files p j) rs) ≡ []
  green_is runs g = sym (failed_is files p j rs is runs g.are.known.entries) ∙ g.green

  pub failed_refuses : (r : JobRefusal) → RefusesFailed p j old r → (all : Bool) → job_answer (allowed_in j) (suite_of files p j) rs all ≡ Err r
  failed_refuses r h all = refused_failed files p j rs is r (failed_among (map known_record h.runs)) (failed_is files p j rs is h.runs h.are.known.entries) (λ next. h.refused next) all

  pub many_refuses : (r : JobRefusal) → RefusesMany p j old r → (all : Bool) → job_answer (allowed_in j) (suite_of files p j) rs all ≡ Err r
  many_refuses r h all =
      refused_many files p j rs is all (green_is h.runs h.are)
      (ap (nat_lt most_cells) (sym (cells_are files p j rs is h.runs h.are.are.known.entries h.cover h.covered.covers h.viable h.covered.told)) ∙ h.many)
      ∙ ap (λ (x : JobRefusal). Err x) (sym h.refused)

  module _ (x : Prepared) (r : IsReadied p j old x) where
    pub few_cells : nat_lt most_cells (cell_total (job_runs (allowed_in j) (suite_of files p j) rs)) ≡ false
    few_cells = ap (nat_lt most_cells) (sym (cells_are files p j rs is x.runs r.runs.are.known.entries r.cover r.covered.covers x.viable r.covered.told)) ∙ r.few

    pub answers : (all : Bool) → job_answer (allowed_in j) (suite_of files p j) rs all ≡ Ok (answer_by (allowed_in j) (suite_of files p j) rs all)
    answers all = answered_so files p j rs is all (green_is x.runs r.runs) few_cells

    pub covering_is : x.covering ≡ map (covering_numbers (allowed_in j) (suite_of files p j) rs) j.mutants.now
    covering_is = r.covering_is ∙ covering_are files p j rs is x.runs r.runs.are.known.entries r.cover r.covered.covers x.viable r.covered.told

    pub viable_is : x.viable ≡ map (λ m. is_some (viable_file p m)) j.mutants.now
    viable_is = r.covered.told ∙ all_viable p j.mutants.now

    pub bounds_is : x.bounds ≡ map (bound_of (allowed_in j) (suite_of files p j) rs) (numbered (suite_of files p j))
    bounds_is = bounds_are files p j rs is x.runs x.bounds r.runs.are.known.entries r.bounds

    pub is_setup : (c : CellJob) → c.mutants ≡ j.mutants.now → c.covering ≡ x.covering → c.tests ≡ j.tests.now → c.bounds ≡ x.bounds → c.limits ≡ j.limits → c.old ≡ rs → IsSetupOf (allowed_in j) (suite_of files p j) rs c
    is_setup c mutants covering tests bounds limits old_is = record {
      mutants = mutants;
      covering_is = covering ∙ covering_is;
      tests = tests;
      bounds = bounds ∙ bounds_is;
      limits = limits;
      old_is = old_is;
    }
