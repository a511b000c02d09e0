use Rattle.std.proofs.Common.{◌∙◌, sym}
use Rattle.jvm_initialization.proofs.Needing.{goes_up, stops_below, stops_top}
use Rattle.jvm_initialization.proofs.need.next_up.Goals as goal

pub returns-then-is_begun-clause-none : goal.returns-then-is_begun-clause-none
returns-then-is_begun-clause-none c =
    stops_below c.args.p.now c.len-len.ensures.form c.requires.kinds c.args.world.now c.args.class.0 c.in-Some.up.0 c.state_of-state.result c.requires.class
    c.in-Some.ensures.goes_on c.state_of-state.ensures (sym c.is_begun.ensures ∙ c.if-is_begun.true)

pub returns-else-is_begun-clause-some : goal.returns-else-is_begun-clause-some
returns-else-is_begun-clause-some c =
    goes_up c.args.p.now c.len-len.ensures.form c.requires.kinds c.args.world.now c.args.class.0 c.in-Some.up.0 c.state_of-state.result c.requires.class
    c.in-Some.ensures.within c.in-Some.ensures.goes_on c.state_of-state.ensures (sym c.is_begun.ensures ∙ c.if-is_begun.false)

pub returns-in-None-clause-none : goal.returns-in-None-clause-none
returns-in-None-clause-none c =
    stops_top c.args.p.now c.len-len.ensures.form c.requires.kinds c.args.world.now c.args.class.0 c.requires.class c.in-None.ensures.ends
