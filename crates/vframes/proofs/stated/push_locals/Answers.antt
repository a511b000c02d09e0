use Rattle.vframes.proofs.StatedLaws.{room_after}
use Rattle.vframes.proofs.stated.push_locals.Goals as goal

pub push_local-requires : goal.push_local-requires
push_local-requires c =
    room_after c.args.store.now.items c.loop-t.store.items c.args.below c.loop-t.locals c.args.types.now c.loop-t.t-index c.requires c.loop-t.invariant.0
