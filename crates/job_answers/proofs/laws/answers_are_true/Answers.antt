use Rattle.std.proofs.Common.{sym, ap, subst}
use Rattle.class_records.specs.Profile.{profile}
use Rattle.reuse_laws.specs.Jobs.{AreTrue}
use Rattle.job_answers.proofs.Answered.{answered}
use Rattle.job_answers.proofs.laws.answers_are_true.Goals as goal

pub returns : goal.returns
returns c = λ a s old all x h true_old e.
    let told = answered a s old all x e in
    subst (AreTrue profile) (sym (ap (λ y. y.records) told.is)) (c.reuse_changes_no_answer.ensures.records a s old all h true_old)
