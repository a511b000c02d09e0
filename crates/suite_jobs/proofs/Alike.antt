-- Where each run is known as its own record, what a job answers doesn't depend on what old records
-- have of it.
use Rattle.std.proofs.Common.{◌≡◌, ◌∙◌, Bool, true, false, List, [], ◌∷◌, ◌++◌, map, refl, sym, ap, subst}
use Rattle.std.specs.Prelude.{All, if◌then◌else◌, ◌||◌, is_some}
use Rattle.std.specs.List.{AllByRecursion}
use Rattle.std.proofs.lemmas.List.Elements.{All-from_recursion, recursion_from_All}
use Rattle.record_rules.specs.declared.record.RunRecord.{RunRecord}
use Rattle.record_rules.specs.Truth.{IsTrueRecord}
use Rattle.record_rules.specs.Histories.{same_record}
use Rattle.class_records.specs.Profile.{profile}
use Rattle.job_rules.specs.Tried.{Tried, JobRuns, known, saying, detects, detections, detections_in, needed, needed_of_all, need, is_among, firsts_after, records_once}
use Rattle.suite_jobs.specs.Jobs.{says, job_runs}
use Rattle.suite_jobs.specs.Laws.{EachRun, IsOwn, RunsAreOwn, forgotten, from_scratch, RunsStayTheSame, AnswerAlike, ReuseChangesNoAnswer, NewRecordsAreTrue}
use Rattle.suite_jobs.proofs.Lists.{all_each, all_joined}

abbrev pub Runs : Type 0
Runs = List (Tried RunRecord)

-- What is known of a run is the record that it makes.
abbrev pub IsMade : Tried RunRecord → Type 0
IsMade t = known t ≡ t.made

pub made_of : (t : Tried RunRecord) → IsOwn t → IsMade t
made_of t q = q.known_is

same_knowns : (ts : Runs) → AllByRecursion IsMade ts → map known ts ≡ map known (map forgotten ts)
same_knowns [] q = refl
same_knowns (t ∷ ts) q = λ i. q.0 i ∷ same_knowns ts q.1 i

same_tests : (ts : Runs) → map (λ (t : Tried RunRecord). t.test) ts ≡ map (λ (t : Tried RunRecord). t.test) (map forgotten ts)
same_tests [] = refl
same_tests (t ∷ ts) = ap (λ ns. t.test ∷ ns) (same_tests ts)

same_sayings : (ts : Runs) → AllByRecursion IsMade ts → map (saying says) ts ≡ map (saying says) (map forgotten ts)
same_sayings [] q = refl
same_sayings (t ∷ ts) q = λ i. (t.test, says (q.0 i)) ∷ same_sayings ts q.1 i

-- ---- the needed runs

needed_case : (all stops : Bool) (rest : Runs) → map forgotten (if all then rest else (if stops then [] else rest)) ≡ (if all then map forgotten rest else (if stops then [] else map forgotten rest))
needed_case true stops rest = refl
needed_case false true rest = refl
needed_case false false rest = refl

pub same_needed : (all : Bool) (ts : Runs) → AllByRecursion IsMade ts → map forgotten (needed says all ts) ≡ needed says all (map forgotten ts)
same_needed all [] q = refl
same_needed all (t ∷ ts) q =
    ap (λ us. forgotten t ∷ us)
    (needed_case all (detects says t) (needed says all ts)
    ∙ (λ i. if all then same_needed all ts q.1 i else (if is_some (says (q.0 i)) then [] else same_needed all ts q.1 i)))

map_joined : (xs ys : Runs) → map forgotten (xs ++ ys) ≡ map forgotten xs ++ map forgotten ys
map_joined [] ys = refl
map_joined (x ∷ xs) ys = ap (λ zs. forgotten x ∷ zs) (map_joined xs ys)

same_needed_of_all : (all : Bool) (mutants : List Runs) → AllByRecursion (AllByRecursion IsMade) mutants → map forgotten (needed_of_all says all mutants) ≡ needed_of_all says all (map (map forgotten) mutants)
same_needed_of_all all [] q = refl
same_needed_of_all all (ts ∷ mutants) q =
    map_joined (needed says all ts) (needed_of_all says all mutants) ∙ (λ i. same_needed all ts q.0 i ++ same_needed_of_all all mutants q.1 i)

kept_needed : (P : Tried RunRecord → Type 0) (every stops : Bool) (rest : Runs) → AllByRecursion P rest → AllByRecursion P (if every then rest else (if stops then [] else rest))
kept_needed P true stops rest q = q
kept_needed P false true rest q = tt
kept_needed P false false rest q = q

all_needed : (P : Tried RunRecord → Type 0) (all : Bool) (ts : Runs) → AllByRecursion P ts → AllByRecursion P (needed says all ts)
all_needed P all [] q = tt
all_needed P all (t ∷ ts) q = (q.0, kept_needed P all (detects says t) (needed says all ts) (all_needed P all ts q.1))

all_needed_of_all : (P : Tried RunRecord → Type 0) (all : Bool) (mutants : List Runs) → AllByRecursion (AllByRecursion P) mutants → AllByRecursion P (needed_of_all says all mutants)
all_needed_of_all P all [] q = tt
all_needed_of_all P all (ts ∷ mutants) q =
    all_joined P (needed says all ts) (needed_of_all says all mutants) (all_needed P all ts q.0) (all_needed_of_all P all mutants q.1)

-- ---- records once

same_among : (us : Runs) (t : Tried RunRecord) → AllByRecursion IsMade us → IsMade t → is_among same_record us t ≡ is_among same_record (map forgotten us) (forgotten t)
same_among [] t q e = refl
same_among (u ∷ us) t q e = λ i. same_record (q.0 i) (e i) || same_among us t q.1 e i

firsts_case : (b : Bool) (t : Tried RunRecord) (rest others : Runs) → map forgotten (if b then rest else t ∷ others) ≡ (if b then map forgotten rest else forgotten t ∷ map forgotten others)
firsts_case true t rest others = refl
firsts_case false t rest others = refl

same_firsts : (seen ts : Runs) → AllByRecursion IsMade seen → AllByRecursion IsMade ts → map forgotten (firsts_after same_record seen ts) ≡ firsts_after same_record (map forgotten seen) (map forgotten ts)
same_firsts seen [] p q = refl
same_firsts seen (t ∷ ts) p q =
    firsts_case (is_among same_record seen t) t (firsts_after same_record seen ts) (firsts_after same_record (t ∷ seen) ts)
    ∙ (λ i. if same_among seen t p q.0 i then same_firsts seen ts p q.1 i else forgotten t ∷ same_firsts (t ∷ seen) ts (q.0, p) q.1 i)

kept_first : (P : Tried RunRecord → Type 0) (b : Bool) (t : Tried RunRecord) (rest others : Runs) → P t → AllByRecursion P rest → AllByRecursion P others → AllByRecursion P (if b then rest else t ∷ others)
kept_first P true t rest others h q r = q
kept_first P false t rest others h q r = (h, r)

all_firsts : (P : Tried RunRecord → Type 0) (seen ts : Runs) → AllByRecursion P ts → AllByRecursion P (firsts_after same_record seen ts)
all_firsts P seen [] q = tt
all_firsts P seen (t ∷ ts) q =
    kept_first P (is_among same_record seen t) t (firsts_after same_record seen ts) (firsts_after same_record (t ∷ seen) ts) q.0 (all_firsts P seen ts q.1)
    (all_firsts P (t ∷ seen) ts q.1)

same_once : (ts : Runs) → AllByRecursion IsMade ts → records_once same_record ts ≡ records_once same_record (map forgotten ts)
same_once ts q =
    same_knowns (firsts_after same_record [] ts) (all_firsts IsMade [] ts q) ∙ ap (map known) (same_firsts [] ts tt q)

-- ---- the whole job

each_run : (xss : List Runs) → AllByRecursion (All IsOwn) xss → AllByRecursion (AllByRecursion IsOwn) xss
each_run [] q = tt
each_run (ts ∷ xss) q = (recursion_from_All IsOwn ts q.0, each_run xss q.1)

module _ (j : JobRuns RunRecord) (q : EachRun IsOwn j) where
  originals_own : AllByRecursion IsOwn j.originals
  originals_own = recursion_from_All IsOwn j.originals q.originals

  mutants_own : AllByRecursion (AllByRecursion IsOwn) j.mutants
  mutants_own = each_run j.mutants (recursion_from_All (All IsOwn) j.mutants q.mutants)

  pub originals_made : AllByRecursion IsMade j.originals
  originals_made = all_each IsOwn IsMade made_of j.originals originals_own

  pub mutants_made : AllByRecursion (AllByRecursion IsMade) j.mutants
  mutants_made = all_each (AllByRecursion IsOwn) (AllByRecursion IsMade) (all_each IsOwn IsMade made_of) j.mutants mutants_own

  needed_own : (all : Bool) → AllByRecursion IsOwn (need says all j)
  needed_own all = all_joined IsOwn j.originals (needed_of_all says all j.mutants) originals_own (all_needed_of_all IsOwn all j.mutants mutants_own)

  pub same_need : (all : Bool) → map forgotten (need says all j) ≡ need says all (from_scratch j)
  same_need all =
      map_joined j.originals (needed_of_all says all j.mutants) ∙ ap (λ ts. map forgotten j.originals ++ ts) (same_needed_of_all all j.mutants mutants_made)

  same_covering : (mutants : List Runs) → map (map (λ (t : Tried RunRecord). t.test)) mutants ≡ map (map (λ (t : Tried RunRecord). t.test)) (map (map forgotten) mutants)
  same_covering [] = refl
  same_covering (ts ∷ mutants) = λ i. same_tests ts i ∷ same_covering mutants i

  same_detections : (all : Bool) (mutants : List Runs) → AllByRecursion (AllByRecursion IsMade) mutants → map (detections says all) mutants ≡ map (detections says all) (map (map forgotten) mutants)
  same_detections all [] p = refl
  same_detections all (ts ∷ mutants) p = λ i. detections_in all (same_sayings ts p.0 i) ∷ same_detections all mutants p.1 i

  pub alike : AnswerAlike j (from_scratch j)
  alike = record {
    originals = same_knowns j.originals originals_made;
    covering = same_covering j.mutants;
    detections = λ all. same_detections all j.mutants mutants_made;
    records = λ all.
        same_once (need says all j) (all_each IsOwn IsMade made_of (need says all j) (needed_own all))
        ∙ ap (records_once same_record) (same_need all);
  }

  are_true : (ts : Runs) → AllByRecursion IsOwn ts → AllByRecursion (IsTrueRecord profile) (map known ts)
  are_true [] p = tt
  are_true (t ∷ ts) p = (true_one t p.0, are_true ts p.1)
    where
      true_one : (t : Tried RunRecord) → IsOwn t → IsTrueRecord profile (known t)
      true_one t o = subst (IsTrueRecord profile) (sym o.known_is) o.true_is

  pub records_true : (all : Bool) → All (IsTrueRecord profile) (records_once same_record (need says all j))
  records_true all =
      All-from_recursion (IsTrueRecord profile) (records_once same_record (need says all j))
      (are_true (firsts_after same_record [] (need says all j)) (all_firsts IsOwn [] (need says all j) (needed_own all)))

pub no_answer : RunsAreOwn → RunsStayTheSame → ReuseChangesNoAnswer
no_answer own same a s old h true_old =
    subst (AnswerAlike (job_runs a s old)) (same a s old h true_old) (alike (job_runs a s old) (own a s old h true_old))

pub new_true : RunsAreOwn → NewRecordsAreTrue
new_true own a s old all h true_old = records_true (job_runs a s old) (own a s old h true_old) all
