use Rattle.true_records.proofs.Holding.{holds}
use Rattle.true_records.proofs.laws.programs_hold_their_files.Goals as goal

pub returns : goal.returns
returns c = holds
