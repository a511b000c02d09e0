use Rattle.job_answers.proofs.Scratch.{cost_as_asked}
use Rattle.job_answers.proofs.laws.costs_are_as_asked.Goals as goal

pub returns : goal.returns
returns c = cost_as_asked c.answers_are_of_all_tests.ensures c.jobs_cost_as_asked.ensures
