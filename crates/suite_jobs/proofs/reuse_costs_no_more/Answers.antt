use Rattle.suite_jobs.proofs.Costs.{no_more}
use Rattle.suite_jobs.proofs.reuse_costs_no_more.Goals as goal

pub returns : goal.returns
returns c = no_more c.runs_are_own.ensures c.reuse_changes_no_answer.ensures.runs
