use Rattle.codec_rules.proofs.Codec.{chain}
use Rattle.codec_rules.proofs.chains_are_read_as_spelled.Goals as goal

pub returns : goal.returns
returns g c = λ first spell_first second front spell_second. chain first spell_first g.A.Spelled.Fits second front spell_second g.B.Spelled.Fits
