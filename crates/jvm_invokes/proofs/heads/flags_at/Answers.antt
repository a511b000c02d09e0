use Rattle.std.proofs.Common.{◌∙◌, ap}
use Rattle.class_link.specs.declared.linked.LinkedClass.{LinkedClass}
use Rattle.jvm_invokes.proofs.Bodies.{flags_at_place}
use Rattle.jvm_invokes.proofs.heads.flags_at.Goals as goal

pub returns : goal.returns
returns c =
    flags_at_place c.args.p.now c.args.site c.info-info.result.now c.flags_in.result c.as_slice-methods.result.now
    (c.as_slice-methods.ensures ∙ ap (λ (l : LinkedClass). l.methods) c.linked-linked.ensures.value)
    c.info-info.ensures.class c.flags_in.ensures
