-- With true records a merge that lacks nothing answers what one call with all of them answers.
use Rattle.std.proofs.Common.{◌≡◌, ◌∙◌, ℕ, ◌+◌, Bool, true, false, cond, List, [], ◌∷◌, ◌++◌, length, map, Option, Some, None, Ok, Err, refl, sym, ap}
use Rattle.std.specs.Prelude.{if◌then◌else◌, is_none, filter, find, nat_lt}
use Rattle.std.specs.List.{AllByRecursion, enumerate_from}
use Rattle.std.specs.Option.{option_map, option_map_or, option_or, unwrap_or}
use Rattle.std.proofs.lemmas.List.Elements.{All-from_recursion, recursion_from_All}
use Rattle.class_model.specs.declared.class.Class.{Class}
use Rattle.machine_rules.specs.Runs.{limit_of}
use Rattle.class_table.specs.declared.scripted.Test.{Test}
use Rattle.mutator_ops.specs.declared.mutant.Mutant.{Mutant}
use Rattle.class_records.specs.Profile.{profile}
use Rattle.record_rules.specs.declared.record.RunRecord.{RunRecord}
use Rattle.record_rules.specs.Jobs.{with_limit, end_of}
use Rattle.record_rules.specs.Matching.{first_match}
use Rattle.record_rules.specs.Records.{Asked, record_of}
use Rattle.record_rules.specs.Truth.{IsTrueRecord}
use Rattle.job_rules.specs.Tried.{Tried, known, needed_of_all}
use Rattle.suite_jobs.specs.Below.{ReuseChangesNothing, mutant_asked, not_viable, original_asked}
use Rattle.suite_jobs.specs.Jobs.{Allowed, Suite, IsAccepted, IsOfFile, covering, has_reached, job_runs, made_by, mutant_runs, numbered, original_tried, says, tried_on, viable_file}
use Rattle.job_answers.specs.declared.refusal.FailedTest.{FailedTest}
use Rattle.job_answers.specs.declared.refusal.JobRefusal.TheVariants.{TooManyCells}
use Rattle.job_answers.specs.Answers.{JobAnswer, answer_by, cell_total, failed_tests, job_answer, most_cells, unless_failed, unless_many, verdict_in, verdict_with}
use Rattle.job_answers.specs.Laws.{AnswersAreFromScratch}
use Rattle.job_answers.proofs.Recorded.{Given, IsGood, IsRecordable, good_tests, mutant}
use Rattle.shard_rules.specs.Files.{Shard}
use Rattle.shard_rules.specs.Owners.{all_records, owner_of, records_of}
use Rattle.shard_laws.specs.Merges.{count_of, is_lacking, lack_of, lacking_mutant, lacking_original, merge_runs, merged_at, merged_by, merged_on, merged_tried, merged_verdict, original_lack, placed_mutants, wanted}
use Rattle.shard_laws.specs.Laws.{MergesAreAsOneCall}
use Rattle.shard_laws.proofs.Alike.{AllAlike, AreAlike, IsAlike, Runs, all_needed_alike, append_alike, detections_alike, knowns_alike, once_alike, tests_alike, totals_alike}
use Rattle.shard_laws.proofs.Complete.{merged_is}
use Rattle.shard_laws.proofs.Found.{IsFound, Keeps, all_found, all_of_owner, all_reused, found_alike, is_there, join_all, match_all, no_cost, no_need_cost, none_passes, still_there, unmapped}

-- ---- one run

known_case : (found : Option RunRecord) (made : RunRecord) (r : Option RunRecord) → option_or found r ≡ r → r ≡ Some made → unwrap_or found made ≡ made
known_case None made r e f = refl
known_case (Some k) made r e f = let g : Some k ≡ Some made = e ∙ f in cc

-- What is known of a run is what it makes, whichever true records there are.
pub known_made : ReuseChangesNothing → (old : List RunRecord) → AllByRecursion (IsTrueRecord profile) old → (k : ℕ) (x : Asked) → IsRecordable x → known (tried_on old k x) ≡ made_by x
unfolding end_of
known_made same old true_old k x q = known_case (option_map (with_limit x.limit) (first_match old x)) (made_by x) (record_of x) (same old x (All-from_recursion (IsTrueRecord profile) old true_old) q.reusable) q.has

-- ---- tests

pub good_numbered : (P : Test → Type 0) (k : ℕ) (ts : List Test) → AllByRecursion P ts → AllByRecursion (λ (t : ℕ × Test). P t.1) (enumerate_from k ts)
good_numbered P k [] q = tt
good_numbered P k (t ∷ ts) q = (q.0, good_numbered P (k + 1) ts q.1)

filter_case : {X : Type 0} (P : X → Type 0) (b : Bool) (x : X) (xs : List X) → P x → AllByRecursion P xs → AllByRecursion P (cond b (x ∷ xs) xs)
filter_case P true x xs p q = (p, q)
filter_case P false x xs p q = q

pub good_filtered : {X : Type 0} (P : X → Type 0) (test : X → Bool) (xs : List X) → AllByRecursion P xs → AllByRecursion P (filter test xs)
good_filtered P test [] q = tt
good_filtered P test (x ∷ xs) q = filter_case P (test x) x (filter test xs) q.0 (good_filtered P test xs q.1)

-- ---- lists of runs

pub map_alike : {X : Type 0} (L : Tried RunRecord → Tried RunRecord → Type 0) (f g : X → Tried RunRecord) (P : X → Type 0) → ((x : X) → P x → IsAlike L (f x) (g x)) → (xs : List X) → AllByRecursion P xs → AreAlike L (map f xs) (map g xs)
map_alike L f g P one [] q = tt
map_alike L f g P one (x ∷ xs) q = (one x q.0, map_alike L f g P one xs q.1)

self_alike : (ts : Runs) → AreAlike Keeps ts ts
self_alike [] = tt
self_alike (t ∷ ts) = (record { test = refl; known_is = refl; link = λ f. f }, self_alike ts)

-- ---- the runs of a merge

module _ (same : ReuseChangesNothing) (g : Given) (a : Allowed) (s : Suite) (h : IsAccepted s) (every : List RunRecord) (true_every : AllByRecursion (IsTrueRecord profile) every) where
  good_at : AllByRecursion (λ (t : ℕ × Test). IsGood g a s h t.1) (numbered s)
  good_at = good_numbered (IsGood g a s h) 0 s.tests (good_tests g a s h)

  -- A run on a mutant by the records of its owner, and by others, of which the same is known.
  module _ (L : Tried RunRecord → Tried RunRecord → Type 0) (own other : List RunRecord) (true_own : AllByRecursion (IsTrueRecord profile) own) (true_other : AllByRecursion (IsTrueRecord profile) other)
      (link : (k : ℕ) (x : Asked) → IsRecordable x → L (tried_on own k x) (tried_on other k x)) where
    one_alike : (k : ℕ) (x : Asked) → IsRecordable x → IsAlike L (tried_on own k x) (tried_on other k x)
    one_alike k x q = record {
      test = refl;
      known_is = known_made same own true_own k x q ∙ sym (known_made same other true_other k x q);
      link = link k x q;
    }

    module _ (m : Mutant) (of : IsOfFile s.program m) where
      viable_alike : (o : Option (Class × List ℕ)) → viable_file s.program m ≡ o
          → AreAlike L (option_map_or (λ made. map (merged_tried a s every own made) (covering a s every m)) o []) (option_map_or (λ made. map (merged_tried a s every other made) (covering a s every m)) o [])
      viable_alike None e = tt
      viable_alike (Some made) e =
          map_alike L (merged_tried a s every own made) (merged_tried a s every other made) (λ t. IsGood g a s h t.1)
          (λ t q. one_alike t.0 (mutant_asked s.files s.program made t.1 a.limits (limit_of (known (original_tried a s every t)).steps)) (mutant g a s h m of made e t.1 (limit_of (known (original_tried a s every t)).steps) q))
          (covering a s every m) (good_filtered (λ (t : ℕ × Test). IsGood g a s h t.1) (λ t. has_reached m (known (original_tried a s every t))) (numbered s) good_at)

      pub runs_alike : AreAlike L (merged_on a s every own m) (merged_on a s every other m)
      runs_alike = viable_alike (viable_file s.program m) refl

-- ---- the whole

module _ (same : ReuseChangesNothing) (g : Given) (a : Allowed) (s : Suite) (h : IsAccepted s) (ss : List Shard) (true_all : AllByRecursion (IsTrueRecord profile) (all_records ss)) where
  keeps : (i k : ℕ) (x : Asked) → IsRecordable x → Keeps (tried_on (records_of ss i) k x) (tried_on (all_records ss) k x)
  keeps i k x q f =
      still_there (with_limit x.limit) (first_match (all_records ss) x)
      ∙ match_all ss i x (sym (still_there (with_limit x.limit) (first_match (records_of ss i) x)) ∙ f)

  at_alike : (p : ℕ × Mutant) → IsOfFile s.program p.1 → AreAlike Keeps (merged_at a s ss p) (mutant_runs a s (all_records ss) p.1)
  at_alike p of =
      let i = owner_of p.0 (count_of ss) in
      runs_alike same g a s h (all_records ss) true_all Keeps (records_of ss i) (all_records ss) (all_of_owner (IsTrueRecord profile) ss i true_all) true_all (keeps i) p.1 of

  all_alike : (k : ℕ) (ms : List Mutant) → AllByRecursion (IsOfFile s.program) ms → AllAlike Keeps (map (merged_at a s ss) (enumerate_from k ms)) (map (mutant_runs a s (all_records ss)) ms)
  all_alike k [] q = tt
  all_alike k (m ∷ ms) q = (at_alike (k, m) q.0, all_alike (k + 1) ms q.1)

  ofs : AllByRecursion (IsOfFile s.program) s.mutants
  ofs = recursion_from_All (IsOfFile s.program) s.mutants h.mutants

  mutants_alike : AllAlike Keeps (map (merged_at a s ss) (placed_mutants s)) (map (mutant_runs a s (all_records ss)) s.mutants)
  mutants_alike = all_alike 0 s.mutants ofs

  verdicts_from : (all : Bool) (k : ℕ) (ms : List Mutant) → AllByRecursion (IsOfFile s.program) ms → map (merged_verdict a s ss all) (enumerate_from k ms) ≡ map (verdict_in a s (all_records ss) all) ms
  verdicts_from all k [] q = refl
  verdicts_from all k (m ∷ ms) q =
      let ts = merged_at a s ss (k, m) in
      let us = mutant_runs a s (all_records ss) m in
      let alike = at_alike (k, m) q.0 in
      let tests = tests_alike Keeps ts us alike in
      let found = detections_alike Keeps all ts us alike in
      λ i. option_map_or (λ (made : Class × List ℕ). verdict_with (tests i) (found i)) (viable_file s.program m) not_viable ∷ verdicts_from all (k + 1) ms q.1 i

  abbrev merged_mutants : List Runs
  merged_mutants = map (merged_at a s ss) (placed_mutants s)

  abbrev call_mutants : List Runs
  call_mutants = map (mutant_runs a s (all_records ss)) s.mutants

  abbrev originals : Runs
  originals = map (original_tried a s (all_records ss)) (numbered s)

  needs_alike : (all : Bool) → AreAlike Keeps (originals ++ needed_of_all says all merged_mutants) (originals ++ needed_of_all says all call_mutants)
  needs_alike all =
      append_alike Keeps originals originals (needed_of_all says all merged_mutants) (needed_of_all says all call_mutants) (self_alike originals) (all_needed_alike Keeps all merged_mutants call_mutants mutants_alike)

  records_alike : (all : Bool) → (merged_by a s ss all).records ≡ (answer_by a s (all_records ss) all).records
  unfolding merge_runs job_runs
  records_alike all =
      once_alike (originals ++ needed_of_all says all merged_mutants) (originals ++ needed_of_all says all call_mutants)
      (knowns_alike Keeps (originals ++ needed_of_all says all merged_mutants) (originals ++ needed_of_all says all call_mutants) (needs_alike all))

  answers_alike : (all : Bool) → merged_by a s ss all ≡ answer_by a s (all_records ss) all
  answers_alike all =
      let verdicts = verdicts_from all 0 s.mutants ofs in
      let records = records_alike all in
      λ i. record { verdicts = verdicts i; records = records i }

  cells_alike : cell_total (merge_runs a s ss) ≡ cell_total (job_runs a s (all_records ss))
  unfolding merge_runs job_runs
  cells_alike = totals_alike Keeps merged_mutants call_mutants mutants_alike

  failed_alike : failed_tests (merge_runs a s ss) ≡ failed_tests (job_runs a s (all_records ss))
  unfolding merge_runs job_runs
  failed_alike = refl

  -- ---- what is found

  found_from : (ts : List (ℕ × Test)) → AllByRecursion (λ t. is_lacking a s (records_of ss 1) t ≡ false) ts → AllByRecursion IsFound (map (original_tried a s (all_records ss)) ts)
  found_from [] q = tt
  found_from (t ∷ ts) q =
      let x = original_asked s.files s.program t.1 a.limits a.steps in
      (still_there (with_limit x.limit) (first_match (all_records ss) x) ∙ match_all ss 1 x (is_there (first_match (records_of ss 1) x) q.0), found_from ts q.1)

  originals_found : lacking_original a s ss ≡ None → AllByRecursion IsFound originals
  originals_found e = found_from (numbered s) (none_passes (is_lacking a s (records_of ss 1)) (numbered s) (unmapped original_lack (find (is_lacking a s (records_of ss 1)) (numbered s)) e))

  mutants_found : (all : Bool) → lacking_mutant (count_of ss) all (merge_runs a s ss).mutants ≡ None → AllByRecursion IsFound (needed_of_all says all merged_mutants)
  unfolding merge_runs
  mutants_found all e = all_found all merged_mutants (unmapped (lack_of (count_of ss)) (find (λ w. is_none w.1.found) (wanted all merged_mutants)) e)

pub as_one_call : ReuseChangesNothing → Given → AnswersAreFromScratch → MergesAreAsOneCall
unfolding merge_runs job_runs job_answer
as_one_call same g scratch a s ss all x h true_all e =
    let trues = recursion_from_All (IsTrueRecord profile) (all_records ss) true_all in
    let m = merged_is a s ss all x e in
    let lacks = m.nothing in
    let failed : failed_tests (job_runs a s (all_records ss)) ≡ [] = sym (failed_alike same g a s h ss trues) ∙ lacks.green in
    let few : nat_lt most_cells (cell_total (job_runs a s (all_records ss))) ≡ false = ap (λ (k : ℕ). nat_lt most_cells k) (sym (cells_alike same g a s h ss trues)) ∙ m.few in
    let is : answer_by a s (all_records ss) all ≡ x = sym (m.is ∙ answers_alike same g a s h ss trues all) in
    let cells = cell_total (job_runs a s (all_records ss)) in
    let answer : job_answer a s (all_records ss) all ≡ Ok x =
    ap (λ (fs : List FailedTest). unless_failed fs (unless_many cells (Ok (answer_by a s (all_records ss) all)))) failed
    ∙ ap (λ (b : Bool). if b then Err TooManyCells else Ok (answer_by a s (all_records ss) all)) few
    ∙ ap (λ (y : JobAnswer). Ok y) is in
    let from = scratch a s (all_records ss) all h true_all in
    let ones = originals_found same g a s h ss trues lacks.originals in
    let others = mutants_found same g a s h ss trues all lacks.mutants in
    let merged_need = map (original_tried a s (all_records ss)) (numbered s) ++ needed_of_all says all (map (merged_at a s ss) (placed_mutants s)) in
    let call_need = map (original_tried a s (all_records ss)) (numbered s) ++ needed_of_all says all (map (mutant_runs a s (all_records ss)) s.mutants) in
    let all_there = found_alike merged_need call_need (needs_alike same g a s h ss trues all) (join_all IsFound (map (original_tried a s (all_records ss)) (numbered s)) (needed_of_all says all (map (merged_at a s ss) (placed_mutants s))) ones others) in
    let none_made = no_cost (map (original_tried a s (all_records ss)) (numbered s)) ones in
    let none_needed = no_need_cost all (map (merged_at a s ss) (placed_mutants s)) others in
    record {
      answer = answer;
      scratch = sym from.answer ∙ answer;
      reused_are = all_reused call_need all_there ∙ ap (λ (y : JobAnswer). length y.records) is;
      cost = λ i. none_made i + none_needed i;
    }
