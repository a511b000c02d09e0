use Rattle.std.proofs.Common.{◌∙◌, ap}
use Rattle.program_rules.specs.Names.{class_behind}
use Rattle.jvm_members.proofs.Slotted.{named_so, class_there}
use Rattle.jvm_members.proofs.slots.class_named.Goals as goal

pub returns : goal.returns
returns c =
    named_so c.args.p.now c.args.reference.now c.args.site c.in_ok-name.name c.in-Some.id c.requires
    (c.in_ok-name.ensures ∙ ap class_behind c.deref.ensures) c.in-Some.ensures.within c.in-Some.ensures.named

pub unreachable-requires : goal.unreachable-requires
unreachable-requires c =
    class_there c.args.p.now c.args.reference.now c.args.site c.in_ok-name.name c.requires
    (c.in_ok-name.ensures ∙ ap class_behind c.deref.ensures) c.in-None.ensures.nothing
