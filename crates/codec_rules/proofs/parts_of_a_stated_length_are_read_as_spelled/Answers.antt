use Rattle.codec_rules.proofs.Filling.{filling}
use Rattle.codec_rules.proofs.parts_of_a_stated_length_are_read_as_spelled.Goals as goal

pub returns : goal.returns
returns g c = λ cut more count read spell. filling cut more count read spell g.A.Spelled.Fits
