use Rattle.std.proofs.Common.{◌∙◌, sym}
use Rattle.jvm_initialization.proofs.Needing.{counts_not, counts_one}
use Rattle.jvm_initialization.proofs.need.need_of_one.Goals as goal

pub returns-then-not-counts-clause-need : goal.returns-then-not-counts-clause-need
returns-then-not-counts-clause-need c v rest m =
    counts_not c.args.p.now c.args.class.0 v rest (sym c.counts.ensures ∙ c.if-not-counts.true)

pub returns-clause-need : goal.returns-clause-need
returns-clause-need c =
    counts_one c.args.p.now c.args.class.0 c.args.world.now c.state_of-state.result c.need_by-need.result
    (sym c.counts.ensures ∙ c.if-not-counts.false) c.state_of-state.ensures (c.need_by-need.ensures.need c.args.p.now)
