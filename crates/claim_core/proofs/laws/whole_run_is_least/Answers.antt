use Rattle.claim_core.proofs.Last.{least_is}
use Rattle.claim_core.proofs.laws.whole_run_is_least.Goals as goal

pub returns : goal.returns
returns c = least_is
