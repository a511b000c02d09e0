use Rattle.codec_rules.proofs.Codec.{either, nothing, given}
use Rattle.codec_rules.proofs.choices_are_read_as_spelled.Goals as goal

pub returns-clause-either : goal.returns-clause-either
returns-clause-either g c = λ test left right spell. either test left right spell g.A.Spelled.Fits

pub returns-clause-nothing : goal.returns-clause-nothing
returns-clause-nothing g c = λ fault spell. nothing fault spell g.A.Spelled.Fits

pub returns-clause-given : goal.returns-clause-given
returns-clause-given g c = λ value spell. given value spell g.A.Spelled.Fits
