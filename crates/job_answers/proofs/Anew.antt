-- With true old records a job answers and costs what it does where each run is made anew.
use Rattle.std.proofs.Common.{◌≡◌, ◌∙◌, Bool, true, false, List, [], ◌∷◌, Result, Ok, Err, refl, ap}
use Rattle.std.specs.Prelude.{nat_lt, if◌then◌else◌}
use Rattle.std.proofs.lemmas.List.Elements.{All-nil}
use Rattle.class_records.specs.Profile.{profile}
use Rattle.record_rules.specs.Truth.{IsTrueRecord}
use Rattle.record_rules.specs.declared.record.RunRecord.{RunRecord}
use Rattle.reuse_laws.specs.Jobs.{AreTrue}
use Rattle.suite_jobs.specs.Jobs.{Allowed, Suite, IsAccepted, job_runs, asked_job}
use Rattle.job_answers.specs.declared.refusal.FailedTest.{FailedTest}
use Rattle.job_answers.specs.declared.refusal.JobRefusal.{JobRefusal}
use Rattle.job_answers.specs.declared.refusal.JobRefusal.TheVariants.{TooManyCells}
use Rattle.job_answers.specs.Answers.{JobAnswer, answer_anew, answer_by, asked_cells, asked_cost, cell_total, failed_tests, job_answer, job_cost, job_scratch, most_cells, unless_failed, unless_many}
use Rattle.job_answers.specs.Laws.{AnswersAreAsAsked, AnswersAreFromScratch, AnswersAreOfAllTests, CostsAreAsAsked, RefusalsCostOriginals, TrueRecordsChangeNothing}
use Rattle.job_answers.proofs.Answered.{answered}

abbrev as_answer : JobAnswer → Result JobAnswer JobRefusal
as_answer x = Ok x

failed_case : (ts : List FailedTest) (x y : Result JobAnswer JobRefusal) → (ts ≡ [] → x ≡ y) → unless_failed ts x ≡ unless_failed ts y
failed_case [] x y h = h refl
failed_case (t ∷ ts) x y h = refl

many_case : (b : Bool) (x y : JobAnswer) → (b ≡ false → x ≡ y) → (if b then Err TooManyCells else as_answer x) ≡ (if b then Err TooManyCells else as_answer y)
many_case true x y h = refl
many_case false x y h = ap as_answer (h refl)

is_answer : (ts : List FailedTest) (b : Bool) (x : JobAnswer) → ts ≡ [] → b ≡ false → unless_failed ts (if b then Err TooManyCells else as_answer x) ≡ Ok x
is_answer ts b x e f = λ i. unless_failed (e i) (if f i then Err TooManyCells else as_answer x)

none_true : AreTrue profile []
none_true = All-nil (IsTrueRecord profile)

module _ (same : TrueRecordsChangeNothing) (of : AnswersAreOfAllTests) (asked : AnswersAreAsAsked) (all : Bool) (a : Allowed) (s : Suite) (h : IsAccepted s) where
  abbrev own : JobAnswer
  own = answer_by a s [] all

  own_is : failed_tests (job_runs a s []) ≡ [] → nat_lt most_cells (cell_total (job_runs a s [])) ≡ false → job_answer a s [] all ≡ Ok own
  unfolding job_answer
  own_is none few = is_answer (failed_tests (job_runs a s [])) (nat_lt most_cells (cell_total (job_runs a s []))) own none few

  own_anew : failed_tests (job_runs a s []) ≡ [] → nat_lt most_cells (cell_total (job_runs a s [])) ≡ false → own ≡ answer_anew all a s
  own_anew none few =
      let e = own_is none few in
      let tests = of a s [] h none_true in
      let runs = asked a s [] h none_true none in
      let verdicts = tests.verdicts all own e in
      let records = runs.records all own e in
      λ i. record { verdicts = verdicts i; records = records i }

  green_anew : failed_tests (job_runs a s []) ≡ [] → unless_many (cell_total (job_runs a s [])) (as_answer own) ≡ unless_many (asked_cells (asked_job a s)) (as_answer (answer_anew all a s))
  green_anew none =
      let runs = asked a s [] h none_true none in
      many_case (nat_lt most_cells (cell_total (job_runs a s []))) own (answer_anew all a s) (own_anew none)
      ∙ (λ i. unless_many (runs.cells i) (as_answer (answer_anew all a s)))

  own_scratch : job_answer a s [] all ≡ job_scratch all a s
  unfolding job_answer
  own_scratch =
      failed_case (failed_tests (job_runs a s [])) (unless_many (cell_total (job_runs a s [])) (as_answer own))
      (unless_many (asked_cells (asked_job a s)) (as_answer (answer_anew all a s))) green_anew

  pub answer_scratch : (old : List RunRecord) → AreTrue profile old → job_answer a s old all ≡ job_scratch all a s
  answer_scratch old true_old = same a s old all h true_old ∙ own_scratch

cost_case : CostsAreAsAsked → RefusalsCostOriginals → (all : Bool) (a : Allowed) (s : Suite) (old : List RunRecord) → IsAccepted s → AreTrue profile old → (r : Result JobAnswer JobRefusal) → job_answer a s old all ≡ r
    → job_cost a s old all ≡ asked_cost all old (asked_job a s) r
cost_case costs refused all a s old h true_old (Ok x) e =
    let c = costs a s old all x h true_old e in
    let least = c.least in
    let most = c.most in
    λ i. record { least = least i; most = most i }
cost_case costs refused all a s old h true_old (Err refusal) e = refused a s old all refusal e

pub from_scratch : TrueRecordsChangeNothing → AnswersAreOfAllTests → AnswersAreAsAsked → CostsAreAsAsked → RefusalsCostOriginals → AnswersAreFromScratch
from_scratch same of asked costs refused a s old all h true_old =
    let is = answer_scratch same of asked all a s h old true_old in
    record {
      answer = is;
      reused = λ x e.
          let told = answered a s old all x e in
          let runs = asked a s old h true_old told.green in
          runs.reused all;
      cost =
          cost_case costs refused all a s old h true_old (job_answer a s old all) refl
          ∙ ap (λ (r : Result JobAnswer JobRefusal). asked_cost all old (asked_job a s) r) is;
    }
