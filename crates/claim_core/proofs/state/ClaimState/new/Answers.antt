use Rattle.std.proofs.Common.{refl}
use Rattle.claim_core.proofs.Holding.{kept_idle}
use Rattle.claim_core.proofs.state.ClaimState.new.Goals as goal

pub invariant_of-result : goal.invariant_of-result
invariant_of-result c =
    let made = c.in_ok-workers.ensures in
    kept_idle _ c.args.mutants c.args.cells c.args.workers refl refl (c.in_ok-least.ensures.items_if_clones_equal (λ y is. is)) made.lists made.drained c.requires.room
