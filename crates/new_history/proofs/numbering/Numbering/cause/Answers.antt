use Rattle.new_history.proofs.Taking.{thrown_put}
use Rattle.new_history.proofs.numbering.Numbering.cause.Goals as goal

pub returns-in_ok-name-in-Thrown : goal.returns-in_ok-name-in-Thrown
returns-in_ok-name-in-Thrown c = thrown_put c.args.self.now c.name.new.self c.args.cause.now _ c.in_ok-name-in-Thrown.name c.in-Thrown.is c.in_ok-name-in-Thrown.ensures
