use Rattle.class_link.specs.View.{method_ref_of}
use Rattle.jvm_world.specs.View.{kind_in}
use Rattle.jvm_receivers.proofs.Instances.{of_another, of_interface}
use Rattle.jvm_receivers.proofs.interfaces.select_known.Goals as goal

pub returns-then-not-fits-clause-answer : goal.returns-then-not-fits-clause-answer
returns-then-not-fits-clause-answer c =
    of_another c.args.p.now (method_ref_of c.args.reference.now) (kind_in c.args.p.now c.args.kind.now) c.in_ok-fits.fits c.in_ok-fits.ensures c.if-not-fits.true

pub returns-clause-answer : goal.returns-clause-answer
returns-clause-answer c =
    let k = kind_in c.args.p.now c.args.kind.now in
    of_interface c.args.p.now (method_ref_of c.args.reference.now) k c.in_ok-fits.fits c.in_ok-answer.answer c.in_ok-fits.ensures c.if-not-fits.false
    (c.in_ok-answer.ensures.answer k c.in_ok-to.ensures.receiver)
