use Rattle.std.proofs.Common.{arith}
use Rattle.type_verifier.proofs.Firsts.{only, room_for}
use Rattle.type_verifier.proofs.frames.first_locals.Goals as goal

pub push_locals-requires : goal.push_locals-requires
push_locals-requires c =
    let most = c.ranges.max_locals in
    room_for c.args.store.now.items c.no_locals-none.result c.args.types.now (c.no_locals-none.ensures c.args.store.now.items)
    (omega (arith, c.requires, most))

pub returns : goal.returns
returns c =
    only c.args.store.now.items c.push_locals.new.store.items c.no_locals-none.result c.in_ok-locals.locals c.args.types.now (c.no_locals-none.ensures c.args.store.now.items) c.in_ok-locals.ensures.more
