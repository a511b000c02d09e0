use Rattle.record_writing.proofs.Formed.{both_writable}
use Rattle.record_writing.proofs.writing_laws_are_of_use.Goals as goal

pub returns : goal.returns
returns c = both_writable
