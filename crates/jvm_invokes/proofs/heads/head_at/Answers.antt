use Rattle.std.proofs.Common.{◌∙◌, ap}
use Rattle.class_link.specs.declared.linked.LinkedClass.{LinkedClass}
use Rattle.jvm_invokes.proofs.Bodies.{head_is}
use Rattle.jvm_invokes.proofs.heads.head_at.Goals as goal

pub returns : goal.returns
returns c =
    head_is c.args.p.now c.args.site c.info-info.result.now c.head_in.result c.as_slice-methods.result.now
    (c.as_slice-methods.ensures ∙ ap (λ (l : LinkedClass). l.methods) c.linked-linked.ensures.value)
    c.linked-linked.ensures.few c.info-info.ensures.class c.head_in.ensures.number c.head_in.ensures.flags c.head_in.ensures.body
