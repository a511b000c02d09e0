use Rattle.std.proofs.Common.{◌∙◌, ap, length}
use Rattle.class_link.specs.declared.linked.LinkedClass.{LinkedClass}
use Rattle.jvm_natives.proofs.Placed.{past}
use Rattle.jvm_natives.proofs.sites.is_site.Goals as goal

pub returns-clause-nowhere : goal.returns-clause-nowhere
returns-clause-nowhere c = λ e.
    past c.args.p.now c.args.site c.info-info.result.now c.len-2.result c.info-info.ensures.class
    (c.len-2.ensures ∙ ap (λ (l : LinkedClass). length l.methods) c.linked-linked.ensures.value) e
