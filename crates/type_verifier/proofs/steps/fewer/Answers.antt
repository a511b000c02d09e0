use Rattle.type_verifier.proofs.Nexts.{fewer_fit}
use Rattle.type_verifier.proofs.steps.fewer.Goals as goal

pub returns-in-Some : goal.returns-in-Some
returns-in-Some c = fewer_fit c.args.method.now c.args.store.now c.args.before c.requires c.in-Some.locals c.args.count c.in-Some.ensures.some
