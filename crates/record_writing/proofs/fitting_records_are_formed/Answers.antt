use Rattle.record_writing.proofs.Formed.{are_formed}
use Rattle.record_writing.proofs.fitting_records_are_formed.Goals as goal

pub returns : goal.returns
returns c = are_formed c.records_have_form.ensures
