use Rattle.std.proofs.Common.{subst}
use Rattle.class_link.specs.View.{method_ref_of}
use Rattle.jvm_link.specs.References.{ResolvesMethodRef}
use Rattle.jvm_receivers.specs.Kinds.{found_row}
use Rattle.jvm_receivers.proofs.Rows.{names_method}
use Rattle.jvm_receivers.proofs.Selecting.{resolved_call, resolved_fault}
use Rattle.jvm_receivers.proofs.invoking.invoke_on.Goals as goal

pub returns-in_ok-done-in-Ok-clause-row : goal.returns-in_ok-done-in-Ok-clause-row
returns-in_ok-done-in-Ok-clause-row c =
    let p = c.args.p.now in
    let r = c.args.reference.now in
    let k = c.args.how in
    names_method p k (method_ref_of r) c.in_ok-done-in-Ok.done c.args.frames.now c.call_resolved.new.frames c.args.world.now c.call_resolved.new.world
    (resolved_call p r (found_row p k (method_ref_of r)) c.in-Ok.callee c.in_ok-done-in-Ok.done c.args.frames.now c.call_resolved.new.frames c.args.world.now c.resolve.new.world c.call_resolved.new.world
    (subst (ResolvesMethodRef p r) c.in-Ok.is c.in_ok-found.ensures.answer) c.in_ok-found.ensures.moves c.in_ok-found.ensures.kept.limits
    (λ m is found. c.in_ok-done-in-Ok.ensures.row m is found))

pub returns-in_ok-thrown-in-Err-clause-row : goal.returns-in_ok-thrown-in-Err-clause-row
returns-in_ok-thrown-in-Err-clause-row c =
    let p = c.args.p.now in
    let r = c.args.reference.now in
    let k = c.args.how in
    let old = c.args.frames.now in
    names_method p k (method_ref_of r) c.in_ok-thrown-in-Err.thrown old old c.args.world.now c.throw.new.world
    (resolved_fault p r (found_row p k (method_ref_of r)) c.in-Err.fault c.in_ok-thrown-in-Err.thrown old old c.args.world.now c.resolve.new.world c.throw.new.world
    (subst (ResolvesMethodRef p r) c.in-Err.is c.in_ok-found.ensures.answer) c.in_ok-found.ensures.moves c.in_ok-found.ensures.kept.limits (c.in_ok-thrown-in-Err.ensures.throws old (method_ref_of r)))

pub call_resolved-requires-clause-resolved : goal.call_resolved-requires-clause-resolved
call_resolved-requires-clause-resolved c = subst (ResolvesMethodRef c.args.p.now c.args.reference.now) c.in-Ok.is c.in_ok-found.ensures.answer
