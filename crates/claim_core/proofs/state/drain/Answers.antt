use Rattle.std.proofs.Common.{refl}
use Rattle.std.proofs.lemmas.List.{map-set}
use Rattle.claim_core.proofs.Holding.{lists_same}
use Rattle.claim_core.proofs.state.drain.Goals as goal

pub returns-clause-lists : goal.returns-clause-lists
returns-clause-lists c = lists_same _ _ _ c.index-workers-worker.result refl

pub returns-clause-drained : goal.returns-clause-drained
returns-clause-drained c = map-set _ _ _ _
