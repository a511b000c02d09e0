use Rattle.codec_rules.proofs.Codec.{one_is_spelled}
use Rattle.codec_rules.proofs.values_are_spelled_apart.Goals as goal

pub returns : goal.returns
returns g c = λ read spell. one_is_spelled read spell g.A.Spelled.Fits
