use Rattle.type_laws.proofs.Entering.{before, next_is}
use Rattle.type_laws.proofs.passes.frames_follow.Goals as goal

pub returns : goal.returns
returns c = record { begin = before; go_on = next_is }
