use Rattle.std.proofs.Common.{◌∙◌, ◌+◌, ap, subst, arith, nat_le}
use Rattle.jvm_world.specs.View.{TellsMade}
use Rattle.jvm_array_rows.specs.Built.{words_for, making}
use Rattle.jvm_array_rows.specs.Grown.{grown}
use Rattle.jvm_array_rows.proofs.Worlds.{tells_built}
use Rattle.jvm_array_rows.proofs.Allocated.{allocated, full, kept_by, fits_in}
use Rattle.jvm_array_rows.proofs.arrays.build_in.Goals as goal

pub returns-then-not-has_room-clause-made : goal.returns-then-not-has_room-clause-made
returns-then-not-has_room-clause-made c =
    let p = c.args.p.now in
    let w = c.args.world.now in
    let ns = c.args.counts.now in
    let name = c.args.name.now in
    let tells = tells_built p w ns c.has_room.result c.requires.there (c.has_room.ensures ∙ ap (λ u. nat_le (u + words_for ns) w.limits.heap) c.words.ensures) name in
    full p w c.end.new.self (making name ns w.limits) (subst (TellsMade p w (making name ns w.limits)) c.if-not-has_room.true tells) c.end.ensures.moves

pub build-requires-clause-room : goal.build-requires-clause-room
build-requires-clause-room c =
    let fits = fits_in c.args.world.now.heap.used c.words.result c.args.counts.now c.args.world.now.limits.heap c.has_room.result c.words.ensures c.has_room.ensures c.if-not-has_room.false in
    omega (arith, fits, c.requires.world.limit)

pub build-requires-clause-small : goal.build-requires-clause-small
build-requires-clause-small c = omega (arith, c.requires.world.limit, c.requires.world.small)

pub overflow_add-number : goal.overflow_add-number
overflow_add-number c =
    let fits = fits_in c.args.world.now.heap.used c.words.result c.args.counts.now c.args.world.now.limits.heap c.has_room.result c.words.ensures c.has_room.ensures c.if-not-has_room.false in
    omega (arith, fits, c.requires.world.small, c.count-number.ensures.few)

pub returns-clause-made : goal.returns-clause-made
returns-clause-made c =
    let fits = fits_in c.args.world.now.heap.used c.words.result c.args.counts.now c.args.world.now.limits.heap c.has_room.result c.words.ensures c.has_room.ensures c.if-not-has_room.false in
    allocated c.args.p.now c.args.world.now c.build.new.heap c.args.name.now c.args.counts.now (c.count-number.result + 1) c.requires.there fits (c.in_ok-build.ensures.made ∙ ap (λ t. grown t c.args.counts.now c.args.world.now.heap) c.as_slice.ensures)
    (ap (λ n. n + 1) c.count-number.ensures.count)

pub returns-clause-kept : goal.returns-clause-kept
returns-clause-kept c = kept_by c.args.p.now c.args.world.now c.build.new.heap c.requires.world c.in_ok-build.ensures.limit c.in_ok-build.ensures.short
