use Rattle.machine_laws.proofs.Deeds.{made_alike}
use Rattle.machine_laws.proofs.deeds_make_alike.Goals as goal

pub returns : goal.returns
returns c = made_alike
