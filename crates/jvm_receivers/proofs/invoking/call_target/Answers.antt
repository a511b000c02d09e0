use Rattle.std.proofs.Common.{subst}
use Rattle.class_link.specs.View.{method_ref_of}
use Rattle.jvm_receivers.specs.Kinds.{on_row}
use Rattle.jvm_receivers.specs.Targets.{HasTaken, TakesTarget}
use Rattle.jvm_receivers.proofs.invoking.call_target.Goals as goal

pub call_on-requires-clause-args : goal.call_on-requires-clause-args
call_on-requires-clause-args c = subst (λ t. HasTaken t c.args.frames.now) c.in-On.is c.in_ok-taken.ensures.args

pub returns-in-Done-clause-row : goal.returns-in-Done-clause-row
returns-in-Done-clause-row c = λ m is found.
    let p = c.args.p.now in
    let r = method_ref_of c.args.reference.now in
    let go = on_row p c.args.how r m in
    subst (λ t. TakesTarget p r go t c.args.frames.now c.args.world.now c.take_target.new.world) c.in-Done.is (c.in_ok-taken.ensures.row go)

pub returns-in_ok-done-in-On-clause-row : goal.returns-in_ok-done-in-On-clause-row
returns-in_ok-done-in-On-clause-row c = λ m is found.
    let p = c.args.p.now in
    let r = method_ref_of c.args.reference.now in
    let go = on_row p c.args.how r m in
    let taken = subst (λ t. TakesTarget p r go t c.args.frames.now c.args.world.now c.take_target.new.world) c.in-On.is (c.in_ok-taken.ensures.row go) in
    taken c.in_ok-done-in-On.done c.call_on.new.frames c.call_on.new.world (c.in_ok-done-in-On.ensures.row m is found)
