use Rattle.library_laws.proofs.Programs.{linked}
use Rattle.library_laws.proofs.linking.accepted_are_linked.Goals as goal

pub returns : goal.returns
returns c = λ classes spelled natives accepted. linked classes spelled natives accepted
