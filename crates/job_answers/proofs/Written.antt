-- The records of an answer have the form of a history where they fit its fields, and they differ.
use Rattle.std.proofs.Common.{◌≡◌, ◌∙◌, ℕ, ◌+◌, ◌<◌, ◌^◌, Bool, true, false, cond, not, nat_eq, List, [], ◌∷◌, ◌++◌, map, Option, Some, None, refl, sym, ap, subst}
use Rattle.std.specs.Prelude.{All, ◌&&◌, nat_le, if◌then◌else◌}
use Rattle.std.specs.List.{AllByRecursion, enumerate_from, filter}
use Rattle.std.specs.Option.{option_map, option_map_or, unwrap_or}
use Rattle.std.proofs.lemmas.Bool.{eqb-true}
use Rattle.std.proofs.lemmas.List.Elements.{recursion_from_All}
use Rattle.class_model.specs.declared.class.Class.{Class}
use Rattle.machine_rules.specs.Runs.{limit_of}
use Rattle.class_table.specs.declared.scripted.Test.{Test}
use Rattle.mutator_ops.specs.declared.mutant.Mutant.{Mutant}
use Rattle.record_rules.specs.declared.record.RunRecord.{RunRecord}
use Rattle.record_rules.specs.Histories.{same_record}
use Rattle.record_rules.specs.Jobs.{with_limit}
use Rattle.record_rules.specs.Matching.{is_of_test, is_timed_out, fits_limit, holds_all, matches, first_match}
use Rattle.record_rules.specs.Records.{Asked}
use Rattle.reuse_laws.specs.Asking.{IsProfile}
use Rattle.history_rules.specs.Items.{AllBy}
use Rattle.history_rules.specs.Fitting.{FitsFields}
use Rattle.history_rules.specs.Laws.{AreWritable, IsFormed, IsOther, before_next}
use Rattle.class_records.specs.Profile.{profile}
use Rattle.record_writing.specs.Writing.{FittingAreFormed}
use Rattle.suite_jobs.specs.Below.{original_asked, mutant_asked}
use Rattle.job_rules.specs.Tried.{Tried, known, knowns, detects, needed, needed_of_all, need, is_among, firsts_after, records_once}
use Rattle.suite_jobs.specs.Jobs.{Allowed, Suite, IsAccepted, IsOfFile, says, made_by, tried_on, original_tried, covering, has_reached, viable_file, mutant_tried, mutant_runs, job_runs}
use Rattle.job_answers.specs.Laws.{AnswersCanBeWritten}
use Rattle.job_answers.proofs.Answered.{answered}
use Rattle.job_answers.proofs.TriedOnce.{among}
use Rattle.job_answers.proofs.Recorded.{Given, IsGood, IsRecordable, good_tests, original, mutant}

abbrev Runs : Type 0
Runs = List (Tried RunRecord)

-- ---- an old record under the limit of a run that it matches

and_first : (b c : Bool) → (b && c) ≡ true → b ≡ true
and_first true c e = refl
and_first false c e = absurd cc

and_second : (b c : Bool) → (b && c) ≡ true → c ≡ true
and_second true c e = e
and_second false c e = absurd cc

pub fits_of : (r : RunRecord) (x : Asked) → matches r x ≡ true → fits_limit r x.limit ≡ true
unfolding matches
fits_of r x e =
    let holds = holds_all x.look x.held r.consulted in
    let fits = fits_limit r x.limit in
    let depth = nat_eq r.depth x.limits.depth in
    let heap = nat_eq r.heap x.limits.heap in
    and_first fits holds
    (and_second depth (fits && holds)
    (and_second heap (depth && (fits && holds))
    (and_second (is_of_test r x.test.class x.test.method) (heap && (depth && (fits && holds))) e)))

steps_case : (b : Bool) (own limit steps : ℕ) → (if b then nat_eq own limit else nat_le steps limit) ≡ true → (if b then nat_eq steps own else nat_le steps own) ≡ true → (if b then nat_eq steps limit else nat_le steps limit) ≡ true
steps_case true own limit steps e f = subst (λ (n : ℕ). nat_eq steps n ≡ true) (eqb-true own limit e) f
steps_case false own limit steps e f = e

formed_with : (r : RunRecord) (x : Asked) → IsFormed r → matches r x ≡ true → x.limit < 2 ^ 64 → IsFormed (with_limit x.limit r)
formed_with r x f e lt = record {
  class = f.class;
  method = f.method;
  heap = f.heap;
  depth = f.depth;
  limit = lt;
  outcome = f.outcome;
  steps = f.steps;
  within = steps_case (is_timed_out r.outcome) r.limit x.limit r.steps (fits_of r x e) f.within;
  few_names = f.few_names;
  names = f.names;
  few_lines = f.few_lines;
  lines = f.lines;
}

-- The first record that matches is one of these, and matches.
pub record IsMatch (x : Asked) (r : RunRecord) : Type 0 where
  pub formed : IsFormed r
  pub is : matches r x ≡ true

match_case : (x : Asked) (o r : RunRecord) (next : Option RunRecord) (b : Bool) → matches o x ≡ b → IsFormed o → (next ≡ Some r → IsMatch x r) → (if b then Some o else next) ≡ Some r → IsMatch x r
match_case x o r next true e f rest h = let same : o ≡ r = cc in subst (IsMatch x) same (record { formed = f; is = e })
match_case x o r next false e f rest h = rest h

pub first_is : (x : Asked) (old : List RunRecord) (r : RunRecord) → AllByRecursion IsFormed old → first_match old x ≡ Some r → IsMatch x r
unfolding first_match
first_is x [] r all e = absurd cc
first_is x (o ∷ old) r all e = match_case x o r (first_match old x) (matches o x) refl all.0 (first_is x old r all.1) e

-- ---- each run of a job

-- What is known of it has the form of a history where it fits the fields of one.
abbrev FormsIfFits : Tried RunRecord → Type 0
FormsIfFits t = FitsFields (known t) → IsFormed (known t)

module _ (g : Given) (ok : IsProfile profile) (law : FittingAreFormed) (a : Allowed) (s : Suite) (old : List RunRecord) (h : IsAccepted s) (all : AllByRecursion IsFormed old) where
  known_case : (x : Asked) → IsRecordable x → (o : Option RunRecord) → first_match old x ≡ o → FitsFields (unwrap_or (option_map (with_limit x.limit) o) (made_by x)) → IsFormed (unwrap_or (option_map (with_limit x.limit) o) (made_by x))
  known_case x q None e fits = law profile x (made_by x) ok q.reusable.asked q.has fits
  known_case x q (Some r) e fits = let one = first_is x old r all e in formed_with r x one.formed one.is fits.limit

  forms : (k : ℕ) (x : Asked) → IsRecordable x → FormsIfFits (tried_on old k x)
  forms k x q fits = known_case x q (first_match old x) refl fits

  originals_form : (n : ℕ) (ts : List Test) → AllByRecursion (IsGood g a s h) ts → AllByRecursion FormsIfFits (map (original_tried a s old) (enumerate_from n ts))
  originals_form n [] q = tt
  originals_form n (t ∷ ts) q = (forms n (original_asked s.files s.program t a.limits a.steps) (original g a s h t q.0), originals_form (n + 1) ts q.1)

  abbrev limit_at : ℕ × Test → ℕ
  limit_at t = limit_of (known (original_tried a s old t)).steps

  module _ (m : Mutant) (of : IsOfFile s.program m) (made : Class × List ℕ) (at : viable_file s.program m ≡ Some made) where
    one_forms : (t : ℕ × Test) → IsGood g a s h t.1 → FormsIfFits (mutant_tried a s old made t)
    one_forms t q = forms t.0 (mutant_asked s.files s.program made t.1 a.limits (limit_at t)) (mutant g a s h m of made at t.1 (limit_at t) q)

    pick_case : (b : Bool) (t : ℕ × Test) (rest : List (ℕ × Test)) → IsGood g a s h t.1 → AllByRecursion FormsIfFits (map (mutant_tried a s old made) rest) → AllByRecursion FormsIfFits (map (mutant_tried a s old made) (cond b (t ∷ rest) rest))
    pick_case true t rest q r = (one_forms t q, r)
    pick_case false t rest q r = r

    picked_form : (test : ℕ × Test → Bool) (n : ℕ) (ts : List Test) → AllByRecursion (IsGood g a s h) ts → AllByRecursion FormsIfFits (map (mutant_tried a s old made) (filter test (enumerate_from n ts)))
    picked_form test n [] q = tt
    picked_form test n (t ∷ ts) q = pick_case (test (n, t)) (n, t) (filter test (enumerate_from (n + 1) ts)) q.0 (picked_form test (n + 1) ts q.1)

  runs_case : (m : Mutant) → IsOfFile s.program m → (o : Option (Class × List ℕ)) → viable_file s.program m ≡ o → AllByRecursion FormsIfFits (option_map_or (λ made. map (mutant_tried a s old made) (covering a s old m)) o [])
  runs_case m of None e = tt
  runs_case m of (Some made) e = picked_form m of made e (λ t. has_reached m (known (original_tried a s old t))) 0 s.tests (good_tests g a s h)

  mutants_form : (ms : List Mutant) → AllByRecursion (IsOfFile s.program) ms → AllByRecursion (AllByRecursion FormsIfFits) (map (mutant_runs a s old) ms)
  mutants_form [] q = tt
  mutants_form (m ∷ ms) q = (runs_case m q.0 (viable_file s.program m) refl, mutants_form ms q.1)

-- ---- those that are needed

both_all : (P : Tried RunRecord → Type 0) (xs ys : Runs) → AllByRecursion P xs → AllByRecursion P ys → AllByRecursion P (xs ++ ys)
both_all P [] ys p q = q
both_all P (x ∷ xs) ys p q = (p.0, both_all P xs ys p.1 q)

kept_needed : (P : Tried RunRecord → Type 0) (every stops : Bool) (rest : Runs) → AllByRecursion P rest → AllByRecursion P (if every then rest else (if stops then [] else rest))
kept_needed P true stops rest q = q
kept_needed P false true rest q = tt
kept_needed P false false rest q = q

all_needed : (P : Tried RunRecord → Type 0) (all : Bool) (ts : Runs) → AllByRecursion P ts → AllByRecursion P (needed says all ts)
all_needed P all [] q = tt
all_needed P all (t ∷ ts) q = (q.0, kept_needed P all (detects says t) (needed says all ts) (all_needed P all ts q.1))

all_needed_of_all : (P : Tried RunRecord → Type 0) (all : Bool) (mutants : List Runs) → AllByRecursion (AllByRecursion P) mutants → AllByRecursion P (needed_of_all says all mutants)
all_needed_of_all P all [] q = tt
all_needed_of_all P all (ts ∷ mutants) q = both_all P (needed says all ts) (needed_of_all says all mutants) (all_needed P all ts q.0) (all_needed_of_all P all mutants q.1)

-- ---- equal ones once

once_case : (seen ts : Runs) (t : Tried RunRecord) (b : Bool) → is_among same_record seen t ≡ b → FormsIfFits t
    → (AllByRecursion FitsFields (knowns (firsts_after same_record seen ts)) → AllBy IsOther before_next (map known seen) (knowns (firsts_after same_record seen ts)))
    → (AllByRecursion FitsFields (knowns (firsts_after same_record (t ∷ seen) ts)) → AllBy IsOther before_next (map known (t ∷ seen)) (knowns (firsts_after same_record (t ∷ seen) ts)))
    → AllByRecursion FitsFields (knowns (if b then firsts_after same_record seen ts else t ∷ firsts_after same_record (t ∷ seen) ts))
    → AllBy IsOther before_next (map known seen) (knowns (if b then firsts_after same_record seen ts else t ∷ firsts_after same_record (t ∷ seen) ts))
once_case seen ts t true e f rest others q = rest q
once_case seen ts t false e f rest others q = ((f q.0, ap not (among seen t ∙ e)), others q.1)

once_from : (seen ts : Runs) → AllByRecursion FormsIfFits ts → AllByRecursion FitsFields (knowns (firsts_after same_record seen ts)) → AllBy IsOther before_next (map known seen) (knowns (firsts_after same_record seen ts))
once_from seen [] p q = tt
once_from seen (t ∷ ts) p q = once_case seen ts t (is_among same_record seen t) refl p.0 (once_from seen ts p.1) (once_from (t ∷ seen) ts p.1) q

pub can_be_written : Given → IsProfile profile → FittingAreFormed → AnswersCanBeWritten
unfolding job_runs
can_be_written g ok law a s old all x h formed e fits =
    let told = answered a s old all x e in
    let ts = need says all (job_runs a s old) in
    let each = recursion_from_All IsFormed old formed in
    let originals = originals_form g ok law a s old h each 0 s.tests (good_tests g a s h) in
    let mutants = mutants_form g ok law a s old h each s.mutants (recursion_from_All (IsOfFile s.program) s.mutants h.mutants) in
    let forms : AllByRecursion FormsIfFits ts =
    both_all FormsIfFits (job_runs a s old).originals (needed_of_all says all (job_runs a s old).mutants) originals (all_needed_of_all FormsIfFits all (job_runs a s old).mutants mutants) in
    let fit : AllByRecursion FitsFields (records_once same_record ts) = recursion_from_All FitsFields (records_once same_record ts) (subst (λ y. All FitsFields y.records) told.is fits) in
    subst (λ y. AreWritable y.records) (sym told.is) (once_from [] ts forms fit)
