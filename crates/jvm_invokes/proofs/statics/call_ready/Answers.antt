use Rattle.std.proofs.Common.{◌∙◌, subst, map}
use Rattle.class_link.specs.Symbols.{kind_of}
use Rattle.class_link.specs.View.{method_ref_of}
use Rattle.jvm_invokes.specs.Calls.{calls_args}
use Rattle.jvm_invokes.specs.Invoked.{Invokes}
use Rattle.jvm_invokes.proofs.StaticCalls.{ready_call}
use Rattle.jvm_invokes.proofs.statics.call_ready.Goals as goal

pub returns-clause-row : goal.returns-clause-row
returns-clause-row c = λ m is.
    let p = c.args.p.now in
    let r = c.args.reference.now in
    let mid = c.consult.new.self in
    let old = c.args.frames.now in
    let called = subst (λ ks. Invokes p (method_ref_of r) (calls_args p (map kind_of ks) m) c.in_ok-done.done old c.call_args.new.frames mid c.call_args.new.world)
    (c.as_slice-kinds.ensures ∙ c.deref.ensures) (c.in_ok-done.ensures.row m (method_ref_of r) is) in
    ready_call p r m c.args.site c.in_ok-done.done old c.call_args.new.frames c.args.world.now mid c.call_args.new.world
    is c.requires.ready c.in_ok-consult.ensures.moves c.in_ok-consult.ensures.kept.limits called
