-- What an answer says of what it was made of.
use Rattle.std.proofs.Common.{◌≡◌, Bool, true, false, List, [], ◌∷◌, Result, Ok, Err, refl}
use Rattle.std.specs.Prelude.{nat_lt, if◌then◌else◌}
use Rattle.record_rules.specs.declared.record.RunRecord.{RunRecord}
use Rattle.suite_jobs.specs.Jobs.{Allowed, Suite, job_runs}
use Rattle.job_answers.specs.declared.refusal.FailedTest.{FailedTest}
use Rattle.job_answers.specs.declared.refusal.JobRefusal.{JobRefusal}
use Rattle.job_answers.specs.declared.refusal.JobRefusal.TheVariants.{TooManyCells}
use Rattle.job_answers.specs.Answers.{JobAnswer, failed_tests, cell_total, most_cells, unless_failed, unless_many, answer_by, job_answer}

abbrev as_answer : JobAnswer → Result JobAnswer JobRefusal
as_answer x = Ok x

many_case : (b : Bool) (y x : JobAnswer) → (if b then Err TooManyCells else as_answer y) ≡ as_answer x → (b ≡ false) × (x ≡ y)
many_case true y x e = absurd cc
many_case false y x e = (refl, cc)

failed_case : (ts : List FailedTest) (next : Result JobAnswer JobRefusal) (x : JobAnswer) → unless_failed ts next ≡ Ok x → (ts ≡ []) × (next ≡ Ok x)
failed_case [] next x e = (refl, e)
failed_case (t ∷ ts) next x e = absurd cc

-- An answer: no test failed, there aren't too many cells, and it is made of all runs.
pub record IsAnswered (a : Allowed) (s : Suite) (old : List RunRecord) (all : Bool) (x : JobAnswer) : Type 0 where
  pub green : failed_tests (job_runs a s old) ≡ []
  pub few : nat_lt most_cells (cell_total (job_runs a s old)) ≡ false
  pub is : x ≡ answer_by a s old all

pub answered : (a : Allowed) (s : Suite) (old : List RunRecord) (all : Bool) (x : JobAnswer) → job_answer a s old all ≡ Ok x → IsAnswered a s old all x
unfolding job_answer
answered a s old all x e =
    let f = failed_case (failed_tests (job_runs a s old)) (unless_many (cell_total (job_runs a s old)) (Ok (answer_by a s old all))) x e in
    let m = many_case (nat_lt most_cells (cell_total (job_runs a s old))) (answer_by a s old all) x f.1 in
    record { green = f.0; few = m.0; is = m.1 }
