use Rattle.mutant_runs.proofs.Codes.{spelled_bounded, bounded_numbered, put_numbered}
use Rattle.mutant_runs.proofs.accepted_edits.instructions_have_numbers.Goals as goal

pub returns : goal.returns
returns c = record { spelled = spelled_bounded; numbered = bounded_numbered; put = put_numbered }
