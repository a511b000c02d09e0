use Rattle.class_family.proofs.Searches.{all_candidates}
use Rattle.class_family.proofs.laws.candidates_once.Goals as goal

pub returns : goal.returns
returns c = λ p order n name desc ranks. all_candidates p ranks order n name desc
