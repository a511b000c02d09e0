use Rattle.std.proofs.Common.{subst}
use Rattle.jvm_members.specs.FieldRows.{accessing}
use Rattle.jvm_initialization.specs.declared.ready.Readied.{Readied}
use Rattle.jvm_members.proofs.Turned.{ReadyFor, next_kept}
use Rattle.jvm_members.proofs.Readied.{changed, turned, used, used_frames}
use Rattle.jvm_members.proofs.statics.access_found.Goals as goal

pub returns-then-not-is_static-clause-row : goal.returns-then-not-is_static-clause-row
returns-then-not-is_static-clause-row c = λ x to.
    let old = c.args.frames.now in
    changed c.args.p.now c.args.reference.now (accessing c.args.access) c.args.site x c.is_static.result c.requires.site to c.is_static.ensures c.in_ok-thrown.thrown c.turn_of-turn.result old old c.args.world.now c.throw.new.world
    c.if-not-is_static.true c.turn_of-turn.ensures.turn (c.in_ok-thrown.ensures.throws old)

pub returns-in_ok-done-in-Ready-clause-row : goal.returns-in_ok-done-in-Ready-clause-row
returns-in_ok-done-in-Ready-clause-row c = λ x to.
    let p = c.args.p.now in
    let old = c.args.frames.now in
    let mid = c.make_ready.new.frames in
    let w = c.args.world.now in
    let m = c.make_ready.new.world in
    used p c.args.reference.now (accessing c.args.access) c.args.site x c.is_static.result c.requires.site to c.is_static.ensures c.in_ok-place.place c.field_at-field.result.now c.deref.result.now c.in_ok-done-in-Ready.done c.turn_of-turn-in-Ready.result old mid c.access_ready.new.frames w m c.access_ready.new.world
    c.deref.ensures c.if-not-is_static.false c.in_ok-place.ensures c.field_at-field.ensures
    (subst (λ (r : Readied). ReadyFor p c.args.site.class.0 r old mid w m) c.in-Ready.is c.in_ok-readied.ensures.ready)
    c.in_ok-readied.ensures.kept.limits c.turn_of-turn-in-Ready.ensures.turn c.in_ok-done-in-Ready.ensures.row

pub returns-in_ok-done-in-Ready-clause-frames : goal.returns-in_ok-done-in-Ready-clause-frames
returns-in_ok-done-in-Ready-clause-frames c =
    let p = c.args.p.now in
    let old = c.args.frames.now in
    let mid = c.make_ready.new.frames in
    let w = c.args.world.now in
    let m = c.make_ready.new.world in
    used_frames p c.args.reference.now (accessing c.args.access) c.args.site c.in_ok-place.place c.field_at-field.result.now c.deref.result.now c.in_ok-done-in-Ready.done old mid c.access_ready.new.frames w m c.access_ready.new.world
    c.deref.ensures c.requires.site c.in_ok-place.ensures c.field_at-field.ensures
    (subst (λ (r : Readied). ReadyFor p c.args.site.class.0 r old mid w m) c.in-Ready.is c.in_ok-readied.ensures.ready)
    c.in_ok-done-in-Ready.ensures.row

pub returns-in-Turned-clause-row : goal.returns-in-Turned-clause-row
returns-in-Turned-clause-row c = λ x to.
    let p = c.args.p.now in
    let old = c.args.frames.now in
    let new = c.make_ready.new.frames in
    let w = c.args.world.now in
    let u = c.make_ready.new.world in
    turned p c.args.reference.now (accessing c.args.access) c.args.site x c.is_static.result c.requires.site to c.is_static.ensures c.in-Turned.turn old new w u
    c.if-not-is_static.false
    (subst (λ (r : Readied). ReadyFor p c.args.site.class.0 r old new w u) c.in-Turned.is c.in_ok-readied.ensures.ready)

pub access_ready-requires-clause-next : goal.access_ready-requires-clause-next
access_ready-requires-clause-next c =
    let p = c.args.p.now in
    let old = c.args.frames.now in
    let mid = c.make_ready.new.frames in
    let w = c.args.world.now in
    let m = c.make_ready.new.world in
    next_kept p c.args.site.class.0 old mid w m
    (subst (λ (r : Readied). ReadyFor p c.args.site.class.0 r old mid w m) c.in-Ready.is c.in_ok-readied.ensures.ready) c.requires.next
