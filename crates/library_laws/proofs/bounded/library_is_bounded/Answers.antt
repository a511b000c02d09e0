use Rattle.library_laws.proofs.Testing.{library_bounded}
use Rattle.library_laws.proofs.bounded.library_is_bounded.Goals as goal

pub returns : goal.returns
returns c = library_bounded
