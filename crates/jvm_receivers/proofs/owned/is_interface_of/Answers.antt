use Rattle.std.proofs.Common.{◌∙◌, ap}
use Rattle.program_rules.specs.Names.{is_listed}
use Rattle.class_link.specs.declared.linked.LinkedClass.{LinkedClass}
use Rattle.jvm_receivers.proofs.SpecialCalls.{interfaces_are}
use Rattle.jvm_receivers.proofs.owned.is_interface_of.Goals as goal

pub returns : goal.returns
returns c =
    c.is_among.ensures
    ∙ ap (is_listed c.args.name.now)
    (c.as_slice.ensures ∙ ap (λ (l : LinkedClass). l.interfaces) c.linked-linked.ensures.value
    ∙ interfaces_are c.args.p.now c.args.class.0 c.info-info.result.now c.info-info.ensures.class)
