use Rattle.job_answers.proofs.AsAsked.{refusals_cost}
use Rattle.job_answers.proofs.laws.refusals_cost_originals.Goals as goal

pub returns : goal.returns
returns c = refusals_cost
