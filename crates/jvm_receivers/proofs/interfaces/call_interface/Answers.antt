use Rattle.class_link.specs.View.{method_ref_of}
use Rattle.jvm_receivers.specs.Receivers.{interface_of}
use Rattle.jvm_receivers.proofs.Absent.{answered_if}
use Rattle.jvm_receivers.proofs.Instances.{on_interface}
use Rattle.jvm_receivers.proofs.interfaces.call_interface.Goals as goal

pub call_answered-requires-clause-answer : goal.call_answered-requires-clause-answer
call_answered-requires-clause-answer c =
    answered_if c.args.p.now c.args.world.now c.args.object (interface_of (method_ref_of c.args.reference.now)) c.in_ok-selected.selected c.in_ok-selected.ensures.selects

pub returns-clause-row : goal.returns-clause-row
returns-clause-row c =
    let p = c.args.p.now in
    let r = method_ref_of c.args.reference.now in
    on_interface p r c.args.object c.args.args.count c.in_ok-done.done c.args.frames.now c.call_answered.new.frames c.args.world.now c.call_answered.new.world
    (c.in_ok-done.ensures.row c.args.object (interface_of r) r c.in_ok-selected.ensures.selects)
