use Rattle.std.proofs.Common.{subst}
use Rattle.jvm_link.specs.Named.{ResolvesClass}
use Rattle.jvm_members.proofs.Made.{was_made, made_lost}
use Rattle.jvm_members.proofs.instances.make_object.Goals as goal

pub returns-in_ok-done-in-Ok-clause-row : goal.returns-in_ok-done-in-Ok-clause-row
returns-in_ok-done-in-Ok-clause-row c =
    let p = c.args.p.now in
    let n = c.args.name.now in
    was_made p n c.in-Ok.id c.in_ok-done-in-Ok.done c.args.frames.now c.make_found.new.frames c.args.world.now c.resolve_class.new.world c.make_found.new.world
    (subst (ResolvesClass p n) c.in-Ok.is c.in_ok-found.ensures.answer) c.in_ok-found.ensures.moves c.in_ok-found.ensures.kept.limits c.in_ok-done-in-Ok.ensures.row

pub returns-in_ok-thrown-in-Err-clause-row : goal.returns-in_ok-thrown-in-Err-clause-row
returns-in_ok-thrown-in-Err-clause-row c =
    let p = c.args.p.now in
    let n = c.args.name.now in
    let old = c.args.frames.now in
    made_lost p n c.in-Err.fault c.in_ok-thrown-in-Err.thrown c.turn_of-turn.result old old c.args.world.now c.resolve_class.new.world c.throw.new.world
    (subst (ResolvesClass p n) c.in-Err.is c.in_ok-found.ensures.answer) c.in_ok-found.ensures.moves c.in_ok-found.ensures.kept.limits
    c.turn_of-turn.ensures.turn (c.in_ok-thrown-in-Err.ensures.throws old)
