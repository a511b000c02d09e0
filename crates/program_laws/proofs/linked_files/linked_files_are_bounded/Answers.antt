use Rattle.program_laws.proofs.Codes.{linked_bounded}
use Rattle.program_laws.proofs.linked_files.linked_files_are_bounded.Goals as goal

pub returns : goal.returns
returns c = linked_bounded
