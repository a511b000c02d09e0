use Rattle.codec_rules.proofs.Many.{many}
use Rattle.codec_rules.proofs.lists_are_read_as_spelled.Goals as goal

pub returns : goal.returns
returns g c = λ read spell. many read spell g.A.Spelled.Fits
