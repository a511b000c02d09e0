use Rattle.mutant_runs.proofs.Putting.{put_alike}
use Rattle.mutant_runs.proofs.accepted_edits.put_classes_stay_alike.Goals as goal

pub returns : goal.returns
returns c = put_alike
