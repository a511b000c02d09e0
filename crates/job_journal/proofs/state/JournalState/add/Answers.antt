use Rattle.std.proofs.Common.{◌≡◌, ◌∙◌, Err, ap, rules}
use Rattle.mt_edge.specs.declared.outside.EdgeFault.{EdgeFault}
use Rattle.mt_edge.specs.declared.outside.EdgeFault.TheVariants.{Failed}
use Rattle.job_journal.proofs.Calls.{one_rose, err_is}
use Rattle.job_journal.proofs.state.JournalState.add.Goals as goal

pub invariant_of-self-in-Err-Failed : goal.invariant_of-self-in-Err-Failed
invariant_of-self-in-Err-Failed g c =
    let failed : c.in-Err-Failed.field-0 ≡ Failed = search rules in
    let is = c.in-Err-Failed.is ∙ ap (λ (e : EdgeFault). Err e) failed in
    let rose = one_rose (g.K.Keeper.writing c.self.inside.keeper) (g.K.Keeper.writing c.add_entry-added.new.keeper) (c.add_entry-added.ensures.cause.failed is) in
    err_is c.add_entry-added.result Failed is c.add_entry-added.ensures.err 1 rose
