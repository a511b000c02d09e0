-- Runs of which the same is known say the same, and leave the same records.
use Rattle.std.proofs.Common.{◌≡◌, ◌∙◌, suc, ◌+◌, Bool, true, false, List, [], ◌∷◌, ◌++◌, length, map, refl, sym, ap}
use Rattle.std.specs.Prelude.{is_some, if◌then◌else◌, sum_by}
use Rattle.std.specs.List.{list_any}
use Rattle.std.proofs.lemmas.List.Sums.{sum_by-cons}
use Rattle.record_rules.specs.declared.record.RunRecord.{RunRecord}
use Rattle.record_rules.specs.Histories.{same_record}
use Rattle.job_rules.specs.Tried.{Tried, known, saying, detections, detections_in, detects, needed, needed_of_all, is_among, firsts_after, records_once}
use Rattle.suite_jobs.specs.Jobs.{says}
use Rattle.job_answers.proofs.TriedOnce.{among}

abbrev pub Runs : Type 0
Runs = List (Tried RunRecord)

-- Two runs of one test of which the same is known; and what else is said of them.
pub record IsAlike (L : Tried RunRecord → Tried RunRecord → Type 0) (t u : Tried RunRecord) : Type 0 where
  pub test : t.test ≡ u.test
  pub known_is : known t ≡ known u
  pub link : L t u

abbrev pub AreAlike : (Tried RunRecord → Tried RunRecord → Type 0) → Runs → Runs → Type 0
AreAlike L [] [] = Unit {0}
AreAlike L [] (u ∷ us) = ⊥
AreAlike L (t ∷ ts) [] = ⊥
AreAlike L (t ∷ ts) (u ∷ us) = IsAlike L t u × AreAlike L ts us

abbrev pub AllAlike : (Tried RunRecord → Tried RunRecord → Type 0) → List Runs → List Runs → Type 0
AllAlike L [] [] = Unit {0}
AllAlike L [] (us ∷ others) = ⊥
AllAlike L (ts ∷ mutants) [] = ⊥
AllAlike L (ts ∷ mutants) (us ∷ others) = AreAlike L ts us × AllAlike L mutants others

module _ (L : Tried RunRecord → Tried RunRecord → Type 0) where
  pub tests_alike : (ts us : Runs) → AreAlike L ts us → map (λ t. t.test) ts ≡ map (λ t. t.test) us
  tests_alike [] [] q = refl
  tests_alike [] (u ∷ us) q = absurd q
  tests_alike (t ∷ ts) [] q = absurd q
  tests_alike (t ∷ ts) (u ∷ us) q = let one = q.0 in λ i. one.test i ∷ tests_alike ts us q.1 i

  saying_alike : (ts us : Runs) → AreAlike L ts us → map (saying says) ts ≡ map (saying says) us
  saying_alike [] [] q = refl
  saying_alike [] (u ∷ us) q = absurd q
  saying_alike (t ∷ ts) [] q = absurd q
  saying_alike (t ∷ ts) (u ∷ us) q = let one = q.0 in λ i. (one.test i, says (one.known_is i)) ∷ saying_alike ts us q.1 i

  pub detections_alike : (all : Bool) (ts us : Runs) → AreAlike L ts us → detections says all ts ≡ detections says all us
  detections_alike all ts us q = ap (detections_in all) (saying_alike ts us q)

  pub knowns_alike : (ts us : Runs) → AreAlike L ts us → map known ts ≡ map known us
  knowns_alike [] [] q = refl
  knowns_alike [] (u ∷ us) q = absurd q
  knowns_alike (t ∷ ts) [] q = absurd q
  knowns_alike (t ∷ ts) (u ∷ us) q = let one = q.0 in λ i. one.known_is i ∷ knowns_alike ts us q.1 i

  lengths_alike : (ts us : Runs) → AreAlike L ts us → length ts ≡ length us
  lengths_alike [] [] q = refl
  lengths_alike [] (u ∷ us) q = absurd q
  lengths_alike (t ∷ ts) [] q = absurd q
  lengths_alike (t ∷ ts) (u ∷ us) q = ap suc (lengths_alike ts us q.1)

  pub totals_alike : (mutants others : List Runs) → AllAlike L mutants others → sum_by length mutants ≡ sum_by length others
  totals_alike [] [] q = refl
  totals_alike [] (us ∷ others) q = absurd q
  totals_alike (ts ∷ mutants) [] q = absurd q
  totals_alike (ts ∷ mutants) (us ∷ others) q =
      sum_by-cons length ts mutants
      ∙ (λ i. lengths_alike ts us q.0 i + totals_alike mutants others q.1 i)
      ∙ sym (sum_by-cons length us others)

  pub append_alike : (ts us ms ns : Runs) → AreAlike L ts us → AreAlike L ms ns → AreAlike L (ts ++ ms) (us ++ ns)
  append_alike [] [] ms ns q r = r
  append_alike [] (u ∷ us) ms ns q r = absurd q
  append_alike (t ∷ ts) [] ms ns q r = absurd q
  append_alike (t ∷ ts) (u ∷ us) ms ns q r = (q.0, append_alike ts us ms ns q.1 r)

  stop_alike : (all b c : Bool) (ts us : Runs) → b ≡ c → AreAlike L ts us → AreAlike L (if all then ts else (if b then [] else ts)) (if all then us else (if c then [] else us))
  stop_alike true b c ts us e q = q
  stop_alike false true true ts us e q = tt
  stop_alike false true false ts us e q = absurd cc
  stop_alike false false true ts us e q = absurd cc
  stop_alike false false false ts us e q = q

  pub needed_alike : (all : Bool) (ts us : Runs) → AreAlike L ts us → AreAlike L (needed says all ts) (needed says all us)
  needed_alike all [] [] q = tt
  needed_alike all [] (u ∷ us) q = absurd q
  needed_alike all (t ∷ ts) [] q = absurd q
  needed_alike all (t ∷ ts) (u ∷ us) q =
      let one = q.0 in
      (q.0, stop_alike all (detects says t) (detects says u) (needed says all ts) (needed says all us) (ap (λ (r : RunRecord). is_some (says r)) one.known_is) (needed_alike all ts us q.1))

  pub all_needed_alike : (all : Bool) (mutants others : List Runs) → AllAlike L mutants others → AreAlike L (needed_of_all says all mutants) (needed_of_all says all others)
  all_needed_alike all [] [] q = tt
  all_needed_alike all [] (us ∷ others) q = absurd q
  all_needed_alike all (ts ∷ mutants) [] q = absurd q
  all_needed_alike all (ts ∷ mutants) (us ∷ others) q =
      append_alike (needed says all ts) (needed says all us) (needed_of_all says all mutants) (needed_of_all says all others) (needed_alike all ts us q.0) (all_needed_alike all mutants others q.1)

-- ---- records

first_case : (b c : Bool) (t u : Tried RunRecord) (ts us ms ns : Runs) → b ≡ c → known t ≡ known u → map known ts ≡ map known us → map known ms ≡ map known ns → map known (if b then ts else t ∷ ms) ≡ map known (if c then us else u ∷ ns)
first_case true true t u ts us ms ns e k p q = p
first_case true false t u ts us ms ns e k p q = absurd cc
first_case false true t u ts us ms ns e k p q = absurd cc
first_case false false t u ts us ms ns e k p q = λ i. k i ∷ q i

firsts_alike : (seen past ts us : Runs) → map known seen ≡ map known past → map known ts ≡ map known us → map known (firsts_after same_record seen ts) ≡ map known (firsts_after same_record past us)
firsts_alike seen past [] [] e f = refl
firsts_alike seen past [] (u ∷ us) e f = absurd cc
firsts_alike seen past (t ∷ ts) [] e f = absurd cc
firsts_alike seen past (t ∷ ts) (u ∷ us) e f =
    let one : known t ≡ known u = cc in
    let others : map known ts ≡ map known us = cc in
    let both : map known (t ∷ seen) ≡ map known (u ∷ past) = λ i. one i ∷ e i in
    first_case (is_among same_record seen t) (is_among same_record past u) t u (firsts_after same_record seen ts) (firsts_after same_record past us) (firsts_after same_record (t ∷ seen) ts) (firsts_after same_record (u ∷ past) us)
    (sym (among seen t) ∙ (λ i. list_any (same_record (one i)) (e i)) ∙ among past u) one (firsts_alike seen past ts us e others) (firsts_alike (t ∷ seen) (u ∷ past) ts us both others)

-- Equal ones once.
pub once_alike : (ts us : Runs) → map known ts ≡ map known us → records_once same_record ts ≡ records_once same_record us
once_alike ts us e = firsts_alike [] [] ts us refl e
