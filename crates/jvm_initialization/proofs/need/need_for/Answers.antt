use Rattle.std.proofs.Common.{◌∙◌, sym}
use Rattle.jvm_initialization.proofs.Needing.{begun_ready, begins_with, interface_need}
use Rattle.jvm_initialization.proofs.need.need_for.Goals as goal

pub returns-then-is_begun-clause-need : goal.returns-then-is_begun-clause-need
returns-then-is_begun-clause-need c =
    begun_ready c.args.p.now c.len-len.ensures.form c.requires.kinds c.args.world.now c.args.class.0 c.state_of-state.result c.state_of-state.ensures (sym c.is_begun.ensures ∙ c.if-is_begun.true)

pub returns-then-is_interface_at-clause-need : goal.returns-then-is_interface_at-clause-need
returns-then-is_interface_at-clause-need c =
    interface_need c.args.p.now c.len-len.ensures.form c.requires.kinds c.args.world.now c.args.class.0 c.state_of-state.result c.need_by-need.result
    (sym c.is_interface_at.ensures ∙ c.if-is_interface_at.true) c.state_of-state.ensures (c.need_by-need.ensures.need c.args.p.now)

pub need_of_class-requires-clause-class : goal.need_of_class-requires-clause-class
need_of_class-requires-clause-class c =
    begins_with c.args.p.now c.args.world.now c.args.class.0 c.state_of-state.result c.requires.class
    (sym c.is_interface_at.ensures ∙ c.if-is_interface_at.false) c.state_of-state.ensures (sym c.is_begun.ensures ∙ c.if-is_begun.false)
