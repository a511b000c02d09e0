use Rattle.std.proofs.Common.{refl}
use Rattle.claim_core.proofs.Holding.{on_err, lists_noted, lists_same, drained_same}
use Rattle.claim_core.proofs.state.note.Goals as goal

pub returns-in_err-push-clause-err : goal.returns-in_err-push-clause-err
returns-in_err-push-clause-err c = on_err _ _ (lists_same _ _ _ c.index-workers-worker.result c.in_err-push.ensures.items)

pub returns-in_err-push-clause-drained : goal.returns-in_err-push-clause-drained
returns-in_err-push-clause-drained c = drained_same _ _ _ c.index-workers-worker.result refl

pub returns-clause-ok : goal.returns-clause-ok
returns-clause-ok c = lists_noted _ _ _ _ c.index-workers-worker.result c.requires c.in_ok-push.ensures.items

pub returns-clause-drained : goal.returns-clause-drained
returns-clause-drained c = drained_same _ _ _ c.index-workers-worker.result refl
