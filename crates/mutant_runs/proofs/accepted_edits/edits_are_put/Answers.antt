use Rattle.mutant_runs.proofs.Putting.{edits_put}
use Rattle.mutant_runs.proofs.accepted_edits.edits_are_put.Goals as goal

pub returns : goal.returns
returns c = edits_put
