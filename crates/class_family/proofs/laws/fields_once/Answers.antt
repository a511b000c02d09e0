use Rattle.class_family.proofs.Searches.{fields}
use Rattle.class_family.proofs.laws.fields_once.Goals as goal

pub returns : goal.returns
returns c = λ p order n name desc rising ranks. fields p ranks order n rising name desc
