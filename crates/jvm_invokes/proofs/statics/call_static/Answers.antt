use Rattle.std.proofs.Common.{◌∙◌, sym}
use Rattle.class_link.specs.View.{method_ref_of}
use Rattle.jvm_invokes.proofs.StaticCalls.{not_static, static_call}
use Rattle.jvm_invokes.proofs.statics.call_static.Goals as goal

pub returns-then-not-is_static-clause-row : goal.returns-then-not-is_static-clause-row
returns-then-not-is_static-clause-row c = λ m is.
    let r = method_ref_of c.args.reference.now in
    let old = c.args.frames.now in
    not_static c.args.p.now r m c.args.site c.head_at-head.result c.in_ok-thrown.thrown old old c.args.world.now c.throw.new.world
    is c.head_at-head.ensures (sym c.is_static.ensures ∙ c.if-not-is_static.true) (c.in_ok-thrown.ensures.throws old r)

pub returns-clause-row : goal.returns-clause-row
returns-clause-row c = λ m is.
    let r = method_ref_of c.args.reference.now in
    static_call c.args.p.now r m c.args.site c.head_at-head.result c.in_ok-done.done c.args.frames.now c.call_ready.new.frames c.args.world.now c.call_ready.new.world
    is c.head_at-head.ensures (sym c.is_static.ensures ∙ c.if-not-is_static.false) (c.in_ok-done.ensures.row m is)
