-- Marked runs say, need and cost what runs do.
use Rattle.std.proofs.Common.{◌≡◌, ◌∙◌, sym, refl, ap, ap₂, subst, ℕ, zero, suc, ◌+◌, ◌<◌, ◌≤◌, Bool, true, false, List, [], ◌∷◌, ◌++◌, Option, None, Some, All, length, map, slice_get, slice_index_or, arith}
use Rattle.std.specs.Prelude.{if◌then◌else◌, is_some, nat_lt}
use Rattle.std.specs.List.{AllByRecursion}
use Rattle.std.specs.Option.{option_map, unwrap_or}
use Rattle.std.proofs.lemmas.Bool.{lt-ltb, ltb-true}
use Rattle.std.proofs.lemmas.List.{map-append}
use Rattle.std.proofs.lemmas.List.Elements.{All-from_recursion}
use Rattle.mutator_ops.specs.declared.mutant.State.{State}
use Rattle.history_file.specs.Rows.{Numbered}
use Rattle.record_rules.specs.declared.record.RunRecord.{RunRecord}
use Rattle.job_rules.specs.Tried.{Ascend, Tried, cost_of, cost_of_all, cost_of_run, detections, detections_in, detects, known, knowns, need_cost, needed, needed_of_all, saying}
use Rattle.job_rules.specs.Worked.{cell_at, cells_from, cells_of}
use Rattle.suite_jobs.specs.Jobs.{says}
use Rattle.suite_jobs.specs.Laws.{steps_of}
use Rattle.worker_gate.specs.Hands.{IsCellOf, IsRunOf, Runs}
use Rattle.suite_workers.specs.Old.{IsIn, found_record}
use Rattle.suite_workers.specs.Said.{IsKnownIn, is_found, known_record}
use Rattle.suite_workers.specs.Marks.{Marked, Origin, mark, mark_found, mark_in, mark_made, marked, origin_of, run_reading}
use Rattle.suite_workers.specs.declared.old_records.FoundRun.{FoundRun}
use Rattle.suite_workers.specs.declared.said.KnownRun.{KnownRun}
use Rattle.suite_workers.specs.declared.said.KnownRun.TheVariants as run
use Rattle.suite_workers.proofs.Lists.{at_default, long_map, map_twice}

abbrev pub says_marked : Marked → Option State
says_marked r = says r.0

abbrev pub steps_marked : Marked → ℕ
steps_marked r = steps_of r.0

-- ---- one run

-- The origin of what is known of a run, by what was found.
abbrev pub origin_by : Option Numbered → Option RunRecord → Option Origin
origin_by history None = None
origin_by history (Some r) = Some (history, true)

-- What is known of it, with its origin.
abbrev pub run_mark : Option Numbered → Tried RunRecord → Marked
run_mark history t = (known t, origin_by history t.found)

known_case : (history : Option Numbered) (o : Option RunRecord) (made : RunRecord) → unwrap_or (option_map (mark_in history) o) (mark_made made) ≡ (unwrap_or o made, origin_by history o)
known_case history None made = refl
known_case history (Some r) made = refl

cost_case : (history : Option Numbered) (o : Option RunRecord) (steps : ℕ) → (if is_some (option_map (mark_in history) o) then 0 else steps) ≡ (if is_some o then 0 else steps)
cost_case history None steps = refl
cost_case history (Some r) steps = refl

needed_case : {X Y : Type 0} (f : X → Y) (every a b : Bool) (xs : List X) (ys : List Y) → a ≡ b → ys ≡ map f xs → (if every then ys else (if a then [] else ys)) ≡ map f (if every then xs else (if b then [] else xs))
needed_case f true a b xs ys e h = h
needed_case f false a true xs ys e h = ap (λ c. if c then [] else ys) e
needed_case f false a false xs ys e h = ap (λ c. if c then [] else ys) e ∙ h

module _ (history : Option Numbered) where
  known_mark : (t : Tried RunRecord) → known (mark history t) ≡ run_mark history t
  known_mark t = known_case history t.found t.made

  pub knowns_marked : (ts : List (Tried RunRecord)) → knowns (map (mark history) ts) ≡ map (run_mark history) ts
  knowns_marked [] = refl
  knowns_marked (t ∷ ts) = λ i. known_mark t i ∷ knowns_marked ts i

  says_same : (t : Tried RunRecord) → says_marked (known (mark history t)) ≡ says (known t)
  says_same t = ap says_marked (known_mark t)

  cost_run : (t : Tried RunRecord) → cost_of_run steps_marked (mark history t) ≡ cost_of_run steps_of t
  cost_run t = cost_case history t.found t.made.steps

  -- ---- the runs of one mutant

  sayings_marked : (ts : List (Tried RunRecord)) → map (saying says_marked) (map (mark history) ts) ≡ map (saying says) ts
  sayings_marked [] = refl
  sayings_marked (t ∷ ts) = λ i. (t.test, says_same t i) ∷ sayings_marked ts i

  detections_marked : (all : Bool) (ts : List (Tried RunRecord)) → detections says_marked all (map (mark history) ts) ≡ detections says all ts
  detections_marked all ts = ap (detections_in all) (sayings_marked ts)

  needed_marked : (all : Bool) (ts : List (Tried RunRecord)) → needed says_marked all (map (mark history) ts) ≡ map (mark history) (needed says all ts)
  needed_marked all [] = refl
  needed_marked all (t ∷ ts) = ap (λ l. mark history t ∷ l) (needed_case (mark history) all (detects says_marked (mark history t)) (detects says t) (needed says all ts) (needed says_marked all (map (mark history) ts)) (ap (λ (o : Option State). is_some o) (says_same t)) (needed_marked all ts))

  cost_marked : (ts : List (Tried RunRecord)) → cost_of steps_marked (map (mark history) ts) ≡ cost_of steps_of ts
  cost_marked [] = refl
  cost_marked (t ∷ ts) = ap₂ (λ a b. a + b) (cost_run t) (cost_marked ts)

  at_marked : (ts : List (Tried RunRecord)) (k : ℕ) (d : Tried Marked) (e : Tried RunRecord) → k < length ts → (slice_index_or (map (mark history) ts) k d).test ≡ (slice_index_or ts k e).test
  at_marked [] k d e lt = absurd (omega (arith, lt))
  at_marked (t ∷ ts) zero d e lt = refl
  at_marked (t ∷ ts) (suc k) d e lt = at_marked ts k d e (omega (arith, lt))

  ascend_marked : (ts : List (Tried RunRecord)) → Ascend ts → Ascend (map (mark history) ts)
  ascend_marked [] h i j d lt within = absurd (omega (arith, within))
  ascend_marked (t ∷ ts) h i j d lt within =
      let long = long_map (mark history) (t ∷ ts) in
      let one = at_marked (t ∷ ts) i d t (omega (arith, lt, within, long)) in
      let two = at_marked (t ∷ ts) j d t (omega (arith, within, long)) in
      let less = h i j t lt (omega (arith, within, long)) in
      omega (arith, one, two, less)

  cells_one : (k : ℕ) (ts : List (Tried RunRecord)) → map (cell_at k) (map (mark history) ts) ≡ map (cell_at k) ts
  cells_one k [] = refl
  cells_one k (t ∷ ts) = ap (λ l. cell_at k t ∷ l) (cells_one k ts)

  -- ---- the runs of all mutants

  pub told_marked : (all : Bool) (ms : Runs RunRecord) → map (detections says_marked all) (marked history ms) ≡ map (detections says all) ms
  told_marked all [] = refl
  told_marked all (ts ∷ ms) = λ i. detections_marked all ts i ∷ told_marked all ms i

  pub needed_all_marked : (all : Bool) (ms : Runs RunRecord) → needed_of_all says_marked all (marked history ms) ≡ map (mark history) (needed_of_all says all ms)
  needed_all_marked all [] = refl
  needed_all_marked all (ts ∷ ms) = ap₂ (λ a b. a ++ b) (needed_marked all ts) (needed_all_marked all ms) ∙ sym (map-append (mark history) (needed says all ts) (needed_of_all says all ms))

  pub costs_marked : (ms : Runs RunRecord) → cost_of_all steps_marked (marked history ms) ≡ cost_of_all steps_of ms
  costs_marked [] = refl
  costs_marked (ts ∷ ms) = ap₂ (λ a b. a + b) (cost_marked ts) (costs_marked ms)

  pub need_marked : (all : Bool) (ms : Runs RunRecord) → need_cost says_marked steps_marked all (marked history ms) ≡ need_cost says steps_of all ms
  need_marked all [] = refl
  need_marked all (ts ∷ ms) = ap₂ (λ a b. a + b) (ap (cost_of steps_marked) (needed_marked all ts) ∙ cost_marked (needed says all ts)) (need_marked all ms)

  pub all_ascend_marked : (ms : Runs RunRecord) → All Ascend ms → All Ascend (marked history ms)
  all_ascend_marked [] h k d lt = absurd (omega (arith, lt))
  all_ascend_marked (ts ∷ ms) h zero d lt = ascend_marked ts (h zero ts (omega arith))
  all_ascend_marked (ts ∷ ms) h (suc k) d lt = all_ascend_marked ms (λ i e l. h (suc i) e (omega (arith, l))) k d (omega (arith, lt))

  cells_marked_from : (k : ℕ) (ms : Runs RunRecord) → cells_from k (marked history ms) ≡ cells_from k ms
  cells_marked_from k [] = refl
  cells_marked_from k (ts ∷ ms) = ap₂ (λ a b. a ++ b) (cells_one k ts) (cells_marked_from (suc k) ms)

  pub cells_marked : (ms : Runs RunRecord) → cells_of (marked history ms) ≡ cells_of ms
  cells_marked ms = cells_marked_from 0 ms

  -- ---- the run of a cell

  -- A marked run of a cell, and the run that is marked.
  pub record IsMarkOf (ms : Runs RunRecord) (mutant test : ℕ) (m : Tried Marked) : Type 0 where
    pub run : Tried RunRecord
    pub is : IsRunOf ms mutant test run
    pub mark_is : m ≡ mark history run

  in_marked : (ts : List (Tried RunRecord)) (k : ℕ) (m : Tried Marked) → slice_get (map (mark history) ts) k ≡ Some m → (t : Tried RunRecord) × (slice_get ts k ≡ Some t) × (m ≡ mark history t)
  in_marked [] k m e = absurd cc
  in_marked (t ∷ ts) zero m e = (t, refl, cc)
  in_marked (t ∷ ts) (suc k) m e = in_marked ts k m e

  at_mutant : (ms : Runs RunRecord) (mutant k : ℕ) (m : Tried Marked) → slice_get (slice_index_or (marked history ms) mutant []) k ≡ Some m → (t : Tried RunRecord) × (slice_get (slice_index_or ms mutant []) k ≡ Some t) × (m ≡ mark history t)
  at_mutant [] mutant k m e = absurd cc
  at_mutant (ts ∷ ms) zero k m e = in_marked ts k m e
  at_mutant (ts ∷ ms) (suc mutant) k m e = at_mutant ms mutant k m e

  pub unmark : (ms : Runs RunRecord) (mutant test : ℕ) (m : Tried Marked) → IsRunOf (marked history ms) mutant test m → IsMarkOf ms mutant test m
  unmark ms mutant test m is =
      let at = at_mutant ms mutant is.place m is.stands in
      record {
        run = at.0;
        is = record { place = is.place; stands = at.1; test_is = sym (ap (λ (t : Tried Marked). t.test) at.2) ∙ is.test_is };
        mark_is = at.2;
      }

  pub cell_unmarked : (ms : Runs RunRecord) (mutant test : ℕ) → IsCellOf (marked history ms) mutant test → IsCellOf ms mutant test
  cell_unmarked ms mutant test cell =
      let of = unmark ms mutant test cell.run cell.is in
      record { run = of.run; is = of.is }

  -- ---- where a found one stands

  found_case : (found : Option FoundRun) (o : Option RunRecord) → o ≡ option_map found_record found → ((f : FoundRun) → found ≡ Some f → IsIn history f) → option_map (mark_in history) o ≡ option_map mark_found found
  found_case None None e there = refl
  found_case None (Some r) e there = absurd cc
  found_case (Some f) None e there = absurd cc
  found_case (Some f) (Some r) e there =
      let same : r ≡ found_record f = cc in
      let at = there f refl in
      let lt : nat_lt f.place (length f.index.now.history.rows) ≡ true = lt-ltb f.place (length f.index.now.history.rows) at.there in
      λ i. Some (same i, Some (at.history_is i, sym lt i))

  pub found_marked : (t : Tried RunRecord) (found : Option FoundRun) → t.found ≡ option_map found_record found → ((f : FoundRun) → found ≡ Some f → IsIn history f) → (mark history t).found ≡ option_map run_reading.found_of found
  found_marked t found e there = found_case found t.found e there

-- ---- what is known of runs

-- Where what is known comes from.
abbrev pub known_origin : KnownRun → Option Origin
known_origin (run.Made made) = None
known_origin (run.Found found) = Some (origin_of found)

abbrev pub mark_of : KnownRun → Marked
mark_of k = (known_record k, known_origin k)

found_so : (k : KnownRun) → is_found k ≡ is_some (known_origin k)
found_so (run.Made made) = refl
found_so (run.Found found) = refl

pub found_all : (ks : List KnownRun) → map is_found ks ≡ map (λ k. is_some (known_origin k)) ks
found_all [] = refl
found_all (k ∷ ks) = λ i. found_so k i ∷ found_all ks i

some_case : (history : Option Numbered) (o : Option RunRecord) → is_some (origin_by history o) ≡ is_some o
some_case history None = refl
some_case history (Some r) = refl

pub found_marks : (history : Option Numbered) (ts : List (Tried RunRecord)) → map (λ (t : Tried RunRecord). is_some (run_mark history t).1) ts ≡ map (λ (t : Tried RunRecord). is_some t.found) ts
found_marks history [] = refl
found_marks history (t ∷ ts) = λ i. some_case history t.found i ∷ found_marks history ts i

in_case : (history : Option Numbered) (k : KnownRun) (o : Option RunRecord) → known_origin k ≡ origin_by history o → IsKnownIn history k
in_case history (run.Made made) o e = tt
in_case history (run.Found f) None e = absurd cc
in_case history (run.Found f) (Some r) e =
    let same : origin_of f ≡ (history, true) = cc in
    record {
      history_is = sym (ap (λ (o : Origin). o.0) same);
      there = ltb-true f.place (length f.index.now.history.rows) (ap (λ (o : Origin). o.1) same);
    }

in_all : (history : Option Numbered) (ks : List KnownRun) (ts : List (Tried RunRecord)) → map mark_of ks ≡ map (run_mark history) ts → AllByRecursion (IsKnownIn history) ks
in_all history [] ts e = tt
in_all history (k ∷ ks) [] e = absurd cc
in_all history (k ∷ ks) (t ∷ ts) e =
    let head : mark_of k ≡ run_mark history t = cc in
    let rest : map mark_of ks ≡ map (run_mark history) ts = cc in
    (in_case history k t.found (ap (λ (m : Marked). m.1) head), in_all history ks ts rest)

-- Where marks are those of runs, each found one stands in the history.
pub all_in : (history : Option Numbered) (ks : List KnownRun) (ts : List (Tried RunRecord)) → map mark_of ks ≡ map (run_mark history) ts → All (IsKnownIn history) ks
all_in history ks ts e = All-from_recursion (IsKnownIn history) ks (in_all history ks ts e)
