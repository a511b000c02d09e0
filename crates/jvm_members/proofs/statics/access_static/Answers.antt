use Rattle.std.proofs.Common.{subst}
use Rattle.jvm_link.specs.References.{ResolvesFieldRef}
use Rattle.jvm_members.proofs.Readied.{static_got, static_lost}
use Rattle.jvm_members.proofs.statics.access_static.Goals as goal

pub returns-in_ok-done-in-Ok-clause-row : goal.returns-in_ok-done-in-Ok-clause-row
returns-in_ok-done-in-Ok-clause-row c =
    let p = c.args.p.now in
    let r = c.args.reference.now in
    static_got p c.args.access r c.in-Ok.site c.in_ok-done-in-Ok.done c.args.frames.now c.access_found.new.frames c.args.world.now c.resolve_field.new.world c.access_found.new.world
    (subst (ResolvesFieldRef p r) c.in-Ok.is c.in_ok-found.ensures.answer) c.in_ok-found.ensures.moves c.in_ok-found.ensures.kept.limits c.in_ok-done-in-Ok.ensures.row

pub returns-in_ok-thrown-in-Err-clause-row : goal.returns-in_ok-thrown-in-Err-clause-row
returns-in_ok-thrown-in-Err-clause-row c =
    let p = c.args.p.now in
    let r = c.args.reference.now in
    let old = c.args.frames.now in
    static_lost p c.args.access r c.in-Err.fault c.in_ok-thrown-in-Err.thrown c.turn_of-turn.result old old c.args.world.now c.resolve_field.new.world c.throw.new.world
    (subst (ResolvesFieldRef p r) c.in-Err.is c.in_ok-found.ensures.answer) c.in_ok-found.ensures.moves c.in_ok-found.ensures.kept.limits
    c.turn_of-turn.ensures.turn (c.in_ok-thrown-in-Err.ensures.throws old)
