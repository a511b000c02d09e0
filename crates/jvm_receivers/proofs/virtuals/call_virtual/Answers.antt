use Rattle.class_link.specs.View.{method_ref_of}
use Rattle.jvm_receivers.specs.Receivers.{virtual_of}
use Rattle.jvm_receivers.proofs.Absent.{answered_if}
use Rattle.jvm_receivers.proofs.virtuals.call_virtual.Goals as goal

pub call_answered-requires-clause-answer : goal.call_answered-requires-clause-answer
call_answered-requires-clause-answer c =
    let p = c.args.p.now in
    let r = method_ref_of c.args.reference.now in
    let h = c.requires.resolved in
    answered_if p c.args.world.now c.args.object (virtual_of r h.method) c.in_ok-selected.selected
    (c.in_ok-selected.ensures.selects h.method h.callee h.found)

pub returns-clause-row : goal.returns-clause-row
returns-clause-row c = λ m is found.
    let r = method_ref_of c.args.reference.now in
    c.in_ok-done.ensures.row c.args.object (virtual_of r m) r (c.in_ok-selected.ensures.selects m is found)
