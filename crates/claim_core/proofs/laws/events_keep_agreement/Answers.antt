use Rattle.claim_core.proofs.Keeping.{after_agrees}
use Rattle.claim_core.proofs.laws.events_keep_agreement.Goals as goal

pub returns : goal.returns
returns c = after_agrees
