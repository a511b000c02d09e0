use Rattle.class_link.specs.View.{method_ref_of}
use Rattle.jvm_receivers.proofs.Instances.{found_of}
use Rattle.jvm_receivers.proofs.interfaces.select.Goals as goal

pub returns-in_ok-answer-in-Some-clause-selects : goal.returns-in_ok-answer-in-Some-clause-selects
returns-in_ok-answer-in-Some-clause-selects c =
    found_of c.args.p.now c.args.world.now c.args.object c.in-Some.found.now (method_ref_of c.args.reference.now) c.in_ok-answer-in-Some.answer c.in-Some.ensures
    c.in_ok-answer-in-Some.ensures.answer
