use Rattle.type_verifier.proofs.Nexts.{none_right, are_alone}
use Rattle.type_verifier.proofs.steps.alone.Goals as goal

pub with_more-requires : goal.with_more-requires
with_more-requires c = none_right c.args.method.now c.args.store.now.items c.no_locals-none.result c.no_locals-none.ensures

pub returns-clause-by : goal.returns-clause-by
returns-clause-by c =
    are_alone c.args.method.now c.args.store.now.items c.no_locals-none.result c.no_locals-none.ensures c.with_more.new.store.items c.args.types.now c.in_ok-locals.locals c.in_ok-locals.ensures.by
