use Rattle.class_family.proofs.Searches.{methods}
use Rattle.class_family.proofs.laws.methods_once.Goals as goal

pub returns : goal.returns
returns c = λ p order n name desc ranks. methods p ranks order n name desc
