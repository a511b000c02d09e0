use Rattle.std.proofs.Common.{◌∙◌, sym, ap}
use Rattle.class_link.specs.declared.linked.LinkedClass.{LinkedClass}
use Rattle.jvm_invokes.proofs.Begun.{library_ready, begun_ready}
use Rattle.jvm_invokes.proofs.ready.is_ready.Goals as goal

pub returns-then-linked : goal.returns-then-linked
returns-then-linked c = λ e.
    library_ready c.args.p.now c.args.class.0 c.info-info.result.now.linked c.args.world.now c.info-info.ensures.class
    (ap (λ (l : LinkedClass). l.library) (sym c.linked.ensures.value) ∙ c.if-linked.true)

pub returns : goal.returns
returns c = λ e.
    begun_ready c.args.p.now c.args.class.0 c.args.world.now c.state-state.result c.state-state.ensures
    (sym c.is_begun.ensures ∙ e)
