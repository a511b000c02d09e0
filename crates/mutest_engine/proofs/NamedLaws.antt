-- The job of a suite by its classes' names is its job by their numbers.
use Rattle.std.proofs.Common.{◌≡◌, ◌∙◌, Bool, true, false, List, [], Ok, refl, sym, ap}
use Rattle.class_records.specs.Profile.{profile}
use Rattle.record_rules.specs.Histories.{reused}
use Rattle.record_rules.specs.Jobs.{Job}
use Rattle.record_rules.specs.declared.record.RunRecord.{RunRecord}
use Rattle.reuse_laws.specs.Jobs.{AreTrue}
use Rattle.suite_runs.specs.Below.{Allowed, Suite, IsAccepted, job_runs, asked_job}
use Rattle.suite_runs.specs.Below.{JobAnswer, asked_cost, job_answer, job_cost, job_reused, job_scratch}
use Rattle.suite_runs.specs.Below.{AnswersAreFromScratch, need_of}
use Rattle.mutest_engine.specs.NamedJobs.{named, named_runs, named_answer, named_reused, named_cost, named_asked, scratch_answer, scratch_cost, scratch_reused}

pub answer_is : (all : Bool) (a : Allowed) (s : Suite) (old : List RunRecord) → job_answer a s old all ≡ named_answer all a (named s) old
unfolding job_answer named_answer named_runs job_runs
answer_is all a s old = refl

pub reused_is : (all : Bool) (a : Allowed) (s : Suite) (old : List RunRecord) → job_reused a s old all ≡ named_reused all a (named s) old
unfolding named_reused named_runs job_runs
reused_is all a s old = refl

pub cost_is : (all : Bool) (a : Allowed) (s : Suite) (old : List RunRecord) → job_cost a s old all ≡ named_cost all a (named s) old
unfolding job_answer named_cost named_answer named_runs job_runs
cost_is all a s old = refl

-- ---- from scratch

asked_is : (a : Allowed) (s : Suite) → asked_job a s ≡ named_asked a (named s)
unfolding asked_job named_asked
asked_is a s = refl

anew_is : (all : Bool) (a : Allowed) (s : Suite) → job_scratch all a s ≡ scratch_answer all a (named s)
unfolding job_runs named_runs asked_job named_asked
anew_is false a s = refl
anew_is true a s = refl

-- With true old records the answer is the one from scratch,
pub scratch_is : AnswersAreFromScratch → (all : Bool) (a : Allowed) (s : Suite) (old : List RunRecord) → IsAccepted s → AreTrue profile old → named_answer all a (named s) old ≡ scratch_answer all a (named s)
scratch_is law all a s old accepted true_ones =
    let of = law a s old all accepted true_ones in
    sym (answer_is all a s old) ∙ of.answer ∙ anew_is all a s

-- and as many of its records are known.
pub counted_is : AnswersAreFromScratch → (all : Bool) (a : Allowed) (s : Suite) (old : List RunRecord) → IsAccepted s → AreTrue profile old → (x : JobAnswer) → named_answer all a (named s) old ≡ Ok x → named_reused all a (named s) old ≡ scratch_reused all a (named s) old
counted_is law all a s old accepted true_ones x e =
    let of = law a s old all accepted true_ones in
    sym (reused_is all a s old) ∙ of.reused x (answer_is all a s old ∙ e) ∙ ap (λ (j : Job). reused old (need_of all j)) (asked_is a s)

-- It costs what it does from scratch.
pub cost_scratch : AnswersAreFromScratch → (all : Bool) (a : Allowed) (s : Suite) (old : List RunRecord) → IsAccepted s → AreTrue profile old → named_cost all a (named s) old ≡ scratch_cost all a (named s) old
cost_scratch law all a s old accepted true_ones =
    let of = law a s old all accepted true_ones in
    sym (cost_is all a s old) ∙ of.cost ∙ (λ i. asked_cost all old (asked_is a s i) (anew_is all a s i))
