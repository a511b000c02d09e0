use Rattle.mutant_apply.proofs.Applied.{parts_applied}
use Rattle.mutant_apply.proofs.bytes_laws.parts_are_of_applied.Goals as goal

pub returns : goal.returns
returns c = parts_applied
