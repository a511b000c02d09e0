use Rattle.class_file_checks.proofs.Answers.{one_is_read}
use Rattle.class_file_checks.proofs.laws.one_answer_is_read.Goals as goal

pub returns : goal.returns
returns g c = one_is_read
