use Rattle.std.proofs.Common.{subst}
use Rattle.class_link.specs.View.{method_ref_of}
use Rattle.jvm_link.specs.References.{ResolvesMethodRef}
use Rattle.jvm_invokes.proofs.StaticCalls.{invoked_static, failed_static}
use Rattle.jvm_invokes.proofs.statics.invoke_static.Goals as goal

pub returns-in_ok-done-in-Ok-clause-row : goal.returns-in_ok-done-in-Ok-clause-row
returns-in_ok-done-in-Ok-clause-row c =
    let p = c.args.p.now in
    let r = c.args.reference.now in
    invoked_static p r c.in-Ok.callee c.in_ok-done-in-Ok.done c.args.frames.now c.call_found_static.new.frames c.args.world.now c.resolve.new.world c.call_found_static.new.world
    (subst (ResolvesMethodRef p r) c.in-Ok.is c.in_ok-found.ensures.answer) c.in_ok-found.ensures.moves c.in_ok-found.ensures.kept.limits c.in_ok-done-in-Ok.ensures.row

pub returns-in_ok-thrown-in-Err-clause-row : goal.returns-in_ok-thrown-in-Err-clause-row
returns-in_ok-thrown-in-Err-clause-row c =
    let p = c.args.p.now in
    let r = c.args.reference.now in
    let old = c.args.frames.now in
    failed_static p r c.in-Err.fault c.in_ok-thrown-in-Err.thrown old old c.args.world.now c.resolve.new.world c.throw.new.world
    (subst (ResolvesMethodRef p r) c.in-Err.is c.in_ok-found.ensures.answer) c.in_ok-found.ensures.moves c.in_ok-found.ensures.kept.limits (c.in_ok-thrown-in-Err.ensures.throws old (method_ref_of r))
