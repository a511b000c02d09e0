use Rattle.mutant_runs.proofs.Adding.{adds_alone}
use Rattle.mutant_runs.proofs.laws.entries_add_alone.Goals as goal

pub returns : goal.returns
returns c = adds_alone c.what_is_spelled_is_named.ensures
