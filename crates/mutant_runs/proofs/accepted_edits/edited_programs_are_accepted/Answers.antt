use Rattle.mutant_runs.proofs.Keeping.{put_accepted, put_library}
use Rattle.mutant_runs.proofs.accepted_edits.edited_programs_are_accepted.Goals as goal

pub returns : goal.returns
returns c = record { accepted = put_accepted; library = put_library }
