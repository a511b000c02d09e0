use Rattle.report_laws.proofs.Witness.{two_files}
use Rattle.report_laws.proofs.two_files_are_met.Goals as goal

pub returns : goal.returns
returns c = two_files
