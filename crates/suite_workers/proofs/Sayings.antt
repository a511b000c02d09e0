-- What cells say by their ends is what their runs say.
use Rattle.std.proofs.Common.{◌≡◌, ◌∙◌, sym, refl, ap, ap₂, subst, ℕ, zero, suc, ◌+◌, ◌<◌, ◌≤◌, Bool, true, false, List, [], ◌∷◌, ◌++◌, Option, All, length, map, take, drop, arith}
use Rattle.std.specs.Prelude.{if◌then◌else◌, is_some, zip}
use Rattle.std.specs.List.{AllZip}
use Rattle.std.proofs.lemmas.List.{map-append}
use Rattle.mutator_ops.specs.declared.mutant.State.{State}
use Rattle.history_file.specs.Rows.{Numbered}
use Rattle.record_rules.specs.declared.record.RunRecord.{RunRecord}
use Rattle.job_rules.specs.Ended.{AreAllEnds, AreEnds, detections_by, or_else, record_in, records_by, with_test}
use Rattle.job_laws.proofs.Alike.{alike}
use Rattle.job_rules.specs.Tried.{Ascend, Tried, cost_of_all, detections, detections_in, known, knowns, need_cost, needed, needed_of_all}
use Rattle.job_rules.specs.Worked.{parted}
use Rattle.suite_jobs.specs.Jobs.{says}
use Rattle.suite_jobs.specs.Laws.{steps_of}
use Rattle.worker_gate.specs.Ends.{ended_of}
use Rattle.worker_gate.specs.Exact.{DetectsAlike}
use Rattle.worker_gate.specs.Hands.{Runs}
use Rattle.worker_gate.specs.Sharing.{AreEndsOf}
use Rattle.suite_workers.specs.Marks.{Marked, marked, run_reading}
use Rattle.suite_workers.specs.Said.{CostsOf, IsSaidOf, is_found, known_record}
use Rattle.suite_workers.specs.Saying.{RunEnd, SaysAll, kept_all, kept_by, known_end, state_end, told_all, told_by}
use Rattle.suite_workers.specs.declared.said.CellsSaid.{CellsSaid}
use Rattle.suite_workers.specs.declared.said.KnownRun.{KnownRun}
use Rattle.suite_workers.specs.declared.said.KnownRun.TheVariants as run
use Rattle.worker_gate.specs.declared.ends.CellEnd.TheVariants as end
use Rattle.suite_workers.proofs.Lists.{drop_map, long_map, map_twice, take_map}
use Rattle.suite_workers.proofs.Marking.{all_ascend_marked, all_in, costs_marked, found_all, found_marks, known_origin, knowns_marked, mark_of, need_marked, needed_all_marked, run_mark, says_marked, steps_marked, told_marked}
use Rattle.suite_workers.proofs.RunsAt.{HasTests, has_marked}

-- ---- one mutant

with_tests : (tests : List ℕ) (ts : List (Tried Marked)) (es : List RunEnd) → map (λ (t : Tried Marked). t.test) ts ≡ tests → zip tests (map state_end es) ≡ with_test says_marked ts (map (ended_of run_reading) es)
with_tests [] [] es is = refl
with_tests [] (t ∷ ts) es is = absurd cc
with_tests (n ∷ tests) [] es is = absurd cc
with_tests (n ∷ tests) (t ∷ ts) [] is = refl
with_tests (n ∷ tests) (t ∷ ts) (e ∷ es) is =
    let head : n ≡ t.test = cc in
    let rest : map (λ (t : Tried Marked). t.test) ts ≡ tests = cc in
    λ i. (head i, state_end e) ∷ with_tests tests ts es rest i

told_is : (all : Bool) (tests : List ℕ) (ts : List (Tried Marked)) (es : List RunEnd) → map (λ (t : Tried Marked). t.test) ts ≡ tests → told_by all tests es ≡ detections_by says_marked all ts (map (ended_of run_reading) es)
told_is all tests ts es is = ap (detections_in all) (with_tests tests ts es is)

record_kept : (e : RunEnd) (rest : List KnownRun) (others : List Marked) → map mark_of rest ≡ others → map mark_of (or_else (known_end e) rest) ≡ or_else (record_in (ended_of run_reading e)) others
record_kept (end.Ran made) rest others h = λ i. mark_of (run.Made made) ∷ h i
record_kept (end.Reused found) rest others h = λ i. mark_of (run.Found found) ∷ h i
record_kept (end.Skipped v) rest others h = h

choice : (every a : Bool) (xs : List KnownRun) (ys : List Marked) → map mark_of xs ≡ ys → map mark_of (if every then xs else (if a then [] else xs)) ≡ (if every then ys else (if a then [] else ys))
choice true a xs ys h = h
choice false true xs ys h = refl
choice false false xs ys h = h

kept_is : (all : Bool) (es : List RunEnd) → map mark_of (kept_by all es) ≡ records_by says_marked all (map (ended_of run_reading) es)
kept_is all [] = refl
kept_is all (e ∷ es) =
    record_kept e (if all then kept_by all es else (if is_some (state_end e) then [] else kept_by all es))
    (if all then records_by says_marked all (map (ended_of run_reading) es) else (if is_some (state_end e) then [] else records_by says_marked all (map (ended_of run_reading) es)))
    (choice all (is_some (state_end e)) (kept_by all es) (records_by says_marked all (map (ended_of run_reading) es)) (kept_is all es))

-- What is known of the needed runs of one mutant.
kept_one : (all : Bool) (ts : List (Tried Marked)) (es : List RunEnd) → Ascend ts → AreEnds says_marked all ts (map (ended_of run_reading) es) → map mark_of (kept_by all es) ≡ knowns (needed says_marked all ts)
kept_one all ts es asc h = kept_is all es ∙ (alike says_marked (λ (x : Marked). 0) all ts (map (ended_of run_reading) es) asc h).records

-- ---- all mutants

module _ (all : Bool) where
  long_tests : (ts : List (Tried Marked)) (tests : List ℕ) → map (λ (t : Tried Marked). t.test) ts ≡ tests → length tests ≡ length ts
  long_tests ts tests is = ap length (sym is) ∙ long_map (λ (t : Tried Marked). t.test) ts

  told_each : (ms : Runs Marked) (covering : List (List ℕ)) (es : List RunEnd) → HasTests ms covering → AllZip (DetectsAlike run_reading all) ms (parted ms (map (ended_of run_reading) es)) → told_all all covering es ≡ map (detections says_marked all) ms
  told_each [] [] es has h = refl
  told_each [] (tests ∷ covering) es has h = absurd has
  told_each (ts ∷ ms) [] es has h = absurd has
  told_each (ts ∷ ms) (tests ∷ covering) es has h =
      let n = long_tests ts tests has.0 in
      let one : told_by all tests (take (length tests) es) ≡ detections says_marked all ts =
      ap (λ k. told_by all tests (take k es)) n
      ∙ told_is all tests ts (take (length ts) es) has.0
      ∙ ap (detections_by says_marked all ts) (take_map (ended_of run_reading) (length ts) es)
      ∙ h.0 in
      let rest : told_all all covering (drop (length tests) es) ≡ map (detections says_marked all) ms =
      ap (λ k. told_all all covering (drop k es)) n
      ∙ told_each ms covering (drop (length ts) es) has.1 (subst (λ l. AllZip (DetectsAlike run_reading all) ms (parted ms l)) (sym (drop_map (ended_of run_reading) (length ts) es)) h.1) in
      λ i. one i ∷ rest i

  kept_each : (ms : Runs Marked) (covering : List (List ℕ)) (es : List RunEnd) → HasTests ms covering → All Ascend ms → AreAllEnds says_marked all ms (parted ms (map (ended_of run_reading) es)) → map mark_of (kept_all all covering es) ≡ knowns (needed_of_all says_marked all ms)
  kept_each [] [] es has asc h = refl
  kept_each [] (tests ∷ covering) es has asc h = absurd has
  kept_each (ts ∷ ms) [] es has asc h = absurd has
  kept_each (ts ∷ ms) (tests ∷ covering) es has asc h =
      let n = long_tests ts tests has.0 in
      map-append mark_of (kept_by all (take (length tests) es)) (kept_all all covering (drop (length tests) es))
      ∙ ap₂ (λ xs ys. xs ++ ys)
      (ap (λ k. map mark_of (kept_by all (take k es))) n
      ∙ kept_one all ts (take (length ts) es) (asc zero ts (omega arith)) (subst (AreEnds says_marked all ts) (sym (take_map (ended_of run_reading) (length ts) es)) h.0))
      (ap (λ k. map mark_of (kept_all all covering (drop k es))) n
      ∙ kept_each ms covering (drop (length ts) es) has.1 (λ k d lt. asc (suc k) d (omega (arith, lt))) (subst (λ l. AreAllEnds says_marked all ms (parted ms l)) (sym (drop_map (ended_of run_reading) (length ts) es)) h.1))
      ∙ sym (map-append known (needed says_marked all ts) (needed_of_all says_marked all ms))

-- ---- what all cells say

module _ (all : Bool) (workers : ℕ) (history : Option Numbered) (ms : Runs RunRecord) (before after : ℕ) (es : List RunEnd) (are : AreEndsOf run_reading all workers (marked history ms) before after es) where
  pub said_so : (covering : List (List ℕ)) (said : CellsSaid) → HasTests ms covering → All Ascend ms → SaysAll all covering es said → IsSaidOf all history ms said
  said_so covering said has asc says_all =
      let runs = needed_of_all says all ms in
      let kept = kept_all all covering es in
      let has_all = has_marked history ms covering has in
      let marks : map mark_of kept ≡ map (run_mark history) runs =
      kept_each all (marked history ms) covering es has_all (all_ascend_marked history ms asc) are.each
      ∙ ap knowns (needed_all_marked history all ms)
      ∙ knowns_marked history runs in
      record {
        detections_are = says_all.told ∙ told_each all (marked history ms) covering es has_all are.exact.detect ∙ told_marked history all ms;
        records =
            ap (map known_record) says_all.kept
            ∙ sym (map_twice mark_of (λ (x : Marked). x.0) kept)
            ∙ ap (map (λ (x : Marked). x.0)) marks
            ∙ map_twice (run_mark history) (λ (x : Marked). x.0) runs;
        found =
            ap (map is_found) says_all.kept
            ∙ found_all kept
            ∙ sym (map_twice mark_of (λ (x : Marked). is_some x.1) kept)
            ∙ ap (map (λ (x : Marked). is_some x.1)) marks
            ∙ map_twice (run_mark history) (λ (x : Marked). is_some x.1) runs
            ∙ found_marks history runs;
        histories = all_in history said.records runs (ap (map mark_of) says_all.kept ∙ marks);
      }

  pub costs_so : CostsOf all workers ms before after
  costs_so = record {
    cost = are.cost;
    meter = are.meter;
    least = subst (λ n. n ≤ are.cost) (need_marked history all ms) are.exact.least;
    most = subst (λ n. are.cost ≤ n) (costs_marked history ms) are.exact.most;
    one = λ only. are.exact.one only ∙ need_marked history all ms;
  }
