use Rattle.claim_core.proofs.Last.{ends_at_least}
use Rattle.claim_core.proofs.laws.events_end_at_least.Goals as goal

pub returns : goal.returns
returns c = ends_at_least
