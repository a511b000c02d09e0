use Rattle.codec_rules.proofs.Codec.{tested}
use Rattle.codec_rules.proofs.tested_values_are_read_as_spelled.Goals as goal

pub returns : goal.returns
returns g c = λ read spell test fault. tested read spell g.A.Spelled.Fits test fault
