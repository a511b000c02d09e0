use Rattle.mutant_runs.proofs.Keeping.{kinds_stay, put_keep_kinds}
use Rattle.mutant_runs.proofs.accepted_edits.kinds_stay_right.Goals as goal

pub returns : goal.returns
returns c = record { alike = kinds_stay; put = put_keep_kinds }
