use Rattle.mutant_apply.proofs.Naming.{spelled_named}
use Rattle.mutant_apply.proofs.spelled_laws.what_is_spelled_is_named.Goals as goal

pub returns : goal.returns
returns c = spelled_named
