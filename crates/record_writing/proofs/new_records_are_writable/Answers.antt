use Rattle.record_writing.proofs.Formed.{are_writable}
use Rattle.record_writing.proofs.new_records_are_writable.Goals as goal

pub returns : goal.returns
returns c = are_writable
