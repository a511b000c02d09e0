use Rattle.codec_rules.proofs.Whole.{whole_takes, whole_again}
use Rattle.codec_rules.proofs.whole_inputs_are_read_as_spelled.Goals as goal

pub returns-clause-taken : goal.returns-clause-taken
returns-clause-taken g c = λ read spell. whole_takes read spell g.A.Spelled.Fits

pub returns-clause-again : goal.returns-clause-again
returns-clause-again g c = λ read spell. whole_again read spell g.A.Spelled.Fits
