use Rattle.mutant_apply.proofs.Made.{applied_made}
use Rattle.mutant_apply.proofs.laws.applied_is_made.Goals as goal

pub returns : goal.returns
returns c = applied_made
