use Rattle.job_answers.proofs.Scratch.{of_all_tests}
use Rattle.job_answers.proofs.laws.answers_are_of_all_tests.Goals as goal

pub returns : goal.returns
returns c = of_all_tests c.runs_are_own.ensures c.verdicts_are_of_all_tests.ensures c.detections_are_of_all_tests.ensures
