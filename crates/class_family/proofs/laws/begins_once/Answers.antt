use Rattle.class_family.proofs.Searches.{needs}
use Rattle.class_family.proofs.laws.begins_once.Goals as goal

pub returns : goal.returns
returns c = λ p order n is ranks. needs p ranks order n is
