use Rattle.mutant_apply.proofs.Keeping.{edit_keeps}
use Rattle.mutant_apply.proofs.laws.edit_keeps_form.Goals as goal

pub returns : goal.returns
returns c = edit_keeps
