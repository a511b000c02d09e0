use Rattle.type_laws.proofs.Alike.{others_stay}
use Rattle.type_laws.proofs.an_edit_leaves_the_others_accepted.Goals as goal

pub returns : goal.returns
returns c = others_stay
