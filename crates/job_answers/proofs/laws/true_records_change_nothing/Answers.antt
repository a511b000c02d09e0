use Rattle.job_answers.proofs.Unchanged.{change_nothing}
use Rattle.job_answers.proofs.laws.true_records_change_nothing.Goals as goal

pub returns : goal.returns
returns c = change_nothing c.reuse_changes_no_answer.ensures.answer
