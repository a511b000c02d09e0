use Rattle.jvm_members.proofs.Slotted.{object_is}
use Rattle.jvm_members.proofs.slots.object_field.Goals as goal

pub returns : goal.returns
returns c =
    object_is c.args.p.now c.args.reference.now c.args.site c.in_ok-named.named c.slot_within-slot.result
    c.requires.site c.requires.object c.in_ok-named.ensures c.slot_within-slot.ensures
