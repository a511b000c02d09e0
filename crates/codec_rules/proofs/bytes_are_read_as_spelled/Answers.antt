use Rattle.codec_rules.proofs.Numbers.{bytes_codec}
use Rattle.codec_rules.proofs.bytes_are_read_as_spelled.Goals as goal

pub returns : goal.returns
returns g c = λ fault count. bytes_codec fault count
