use Rattle.jvm_members.proofs.Fielded.{not_static, static_one, instance_one}
use Rattle.std.proofs.Common.{refl, false}
use Rattle.jvm_members.proofs.fields.access_found.Goals as goal

pub returns-then-is_static-clause-row : goal.returns-then-is_static-clause-row
returns-then-is_static-clause-row c = λ x to.
    let old = c.args.frames.now in
    static_one c.args.p.now c.args.access c.args.reference.now c.args.site x c.is_static.result c.in_ok-thrown.thrown old old c.args.world.now c.throw.new.world
    c.requires.site to c.is_static.ensures c.if-is_static.true (c.in_ok-thrown.ensures.throws old)

pub keep-requires-clause-object : goal.keep-requires-clause-object
keep-requires-clause-object c = not_static c.args.p.now c.args.site c.is_static.result c.is_static.ensures c.if-is_static.false

pub returns-clause-row : goal.returns-clause-row
returns-clause-row c = λ x to.
    let is = c.in_ok-field.ensures.field in
    instance_one c.args.p.now c.args.access c.args.reference.now c.in_ok-field.field.site x false c.in_ok-field.field.slot c.in_ok-done.done c.args.frames.now c.access_slot.new.frames c.args.world.now c.access_slot.new.world
    c.requires.world is.found to is.object refl is.serves c.in_ok-done.ensures.row
