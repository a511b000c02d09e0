use Rattle.mutant_runs.proofs.Differing.{differ_in_one}
use Rattle.mutant_runs.proofs.accepted_edits.edits_differ_in_one.Goals as goal

pub returns : goal.returns
returns c = differ_in_one
