use Rattle.std.proofs.Common.{[], arith, reverse, subst, sym}
use Rattle.type_rules.specs.Frames.{full_frame}
use Rattle.vframes.specs.View.{types_in}
use Rattle.vframes.specs.Stated.{AreLocals}
use Rattle.type_verifier.proofs.Firsts.{first_full, only, room_for}
use Rattle.type_verifier.proofs.first.first_frame.Goals as goal

pub push_locals-requires : goal.push_locals-requires
push_locals-requires c =
    let most = c.ranges.max_locals in
    room_for c.new-store.result.items c.no_locals.result c.args.types.now (c.no_locals.ensures c.new-store.result.items)
    (omega (arith, c.requires, most))

pub returns : goal.returns
returns c ns =
    let ts = c.args.types.now in
    let l = c.in_ok-locals.locals in
    let behind = only c.new-store.result.items c.push_locals.new.store.items c.no_locals.result l ts (c.no_locals.ensures c.new-store.result.items) c.in_ok-locals.ensures.more in
    let are = subst (λ s. AreLocals s l (reverse ts)) (sym c.deref.ensures.value) behind in
    sym (c.in_ok-frame.ensures ns (full_frame c.args.max_locals (types_in ns ts) [])
    (first_full ns c.deref.result.now c.args.max_locals (record { locals = l; stack = c.new.result }) ts are c.new.ensures c.requires))
