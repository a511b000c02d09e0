use Rattle.type_laws.proofs.Entering.{out_is, unreached, refused, judged}
use Rattle.type_laws.proofs.passes.rules_follow.Goals as goal

pub returns : goal.returns
returns c = record { out = out_is; unreached = unreached; not_taken = refused; asked = judged }
