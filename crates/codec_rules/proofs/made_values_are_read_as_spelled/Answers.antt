use Rattle.codec_rules.proofs.Codec.{made}
use Rattle.codec_rules.proofs.made_values_are_read_as_spelled.Goals as goal

pub returns : goal.returns
returns g c = λ read spell make part. made read spell g.A.Spelled.Fits make part g.B.Spelled.Fits
