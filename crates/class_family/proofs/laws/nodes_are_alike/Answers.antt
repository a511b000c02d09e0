use Rattle.class_family.proofs.Levels.{nodes_are}
use Rattle.class_family.proofs.laws.nodes_are_alike.Goals as goal

pub returns : goal.returns
returns c = λ p order n ranks. nodes_are p ranks order n
