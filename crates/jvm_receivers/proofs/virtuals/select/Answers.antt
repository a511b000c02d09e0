use Rattle.class_link.specs.View.{method_ref_of}
use Rattle.jvm_world.specs.View.{kind_in}
use Rattle.jvm_receivers.specs.Receivers.{virtual_of}
use Rattle.jvm_receivers.proofs.Absent.{found_selects}
use Rattle.jvm_receivers.proofs.virtuals.select.Goals as goal

pub returns-in_ok-answer-in-Some-clause-selects : goal.returns-in_ok-answer-in-Some-clause-selects
returns-in_ok-answer-in-Some-clause-selects c = λ m is found.
    let p = c.args.p.now in
    let r = method_ref_of c.args.reference.now in
    let o = c.in-Some.found.now in
    found_selects p c.args.world.now c.args.object o (virtual_of r m) c.in_ok-answer-in-Some.answer c.in-Some.ensures
    (c.in_ok-answer-in-Some.ensures.answer (kind_in p o.kind) m is found c.in_ok-to-in-Some.ensures.receiver)
