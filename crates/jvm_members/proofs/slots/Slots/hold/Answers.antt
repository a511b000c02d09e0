use Rattle.std.proofs.Common.{subst, sym}
use Rattle.jvm_members.specs.Slots.{AreSlots}
use Rattle.jvm_members.proofs.Slotted.{held_more}
use Rattle.jvm_members.proofs.slots.Slots.hold.Goals as goal

pub returns : goal.returns
returns c =
    let p = c.args.p.now in
    held_more p c.self.inside.rows.items c.hold.new.rows.items c.args.class.0 c.args.index c.args.field c.args.reference.now
    (subst (AreSlots p) (sym c.self.view_is) c.requires.slots) c.requires.entry c.requires.right c.in_ok-hold.ensures.held
