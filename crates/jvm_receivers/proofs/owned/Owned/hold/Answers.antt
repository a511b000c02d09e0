use Rattle.std.proofs.Common.{subst, sym}
use Rattle.jvm_receivers.specs.Owned.{AreOwned}
use Rattle.jvm_receivers.proofs.Owning.{held_more}
use Rattle.jvm_receivers.proofs.owned.Owned.hold.Goals as goal

pub returns : goal.returns
returns c =
    let p = c.args.p.now in
    held_more p c.self.inside.rows.items c.hold.new.rows.items c.args.class.0 c.args.index c.args.own c.args.reference.now
    (subst (AreOwned p) (sym c.self.view_is) c.requires.owned) c.requires.entry c.requires.right c.in_ok-hold.ensures.held
