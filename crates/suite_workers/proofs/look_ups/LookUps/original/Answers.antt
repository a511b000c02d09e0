use Rattle.suite_workers.proofs.LookedUp.{original_is}
use Rattle.suite_workers.proofs.look_ups.LookUps.original.Goals as goal

pub returns-clause-finds : goal.returns-clause-finds
returns-clause-finds c = original_is c.args.self.now c.args.test c.found.result c.found.ensures.finds
