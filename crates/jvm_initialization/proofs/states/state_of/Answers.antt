use Rattle.std.proofs.Common.{◌∙◌, sym, ap}
use Rattle.class_link.specs.declared.linked.LinkedClass.{LinkedClass}
use Rattle.jvm_initialization.proofs.Needing.{library_state, marked_state}
use Rattle.jvm_initialization.proofs.states.state_of.Goals as goal

pub returns-then-linked : goal.returns-then-linked
returns-then-linked c =
    library_state c.args.p.now c.args.class.0 c.info-info.result.now.linked c.args.world.now c.info-info.ensures.class
    (ap (λ (l : LinkedClass). l.library) (sym c.linked.ensures.value) ∙ c.if-linked.true)

pub returns : goal.returns
returns c =
    marked_state c.args.p.now c.args.class.0 c.info-info.result.now.linked c.args.world.now c.state.result c.info-info.ensures.class
    (ap (λ (l : LinkedClass). l.library) (sym c.linked.ensures.value) ∙ c.if-linked.false) c.state.ensures
