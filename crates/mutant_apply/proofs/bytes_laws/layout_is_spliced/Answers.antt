use Rattle.mutant_apply.proofs.Splices.{layout_spliced}
use Rattle.mutant_apply.proofs.bytes_laws.layout_is_spliced.Goals as goal

pub returns : goal.returns
returns c = layout_spliced
