use Rattle.std.proofs.Common.{subst}
use Rattle.std.specs.Prelude.{IfSome}
use Rattle.jvm_receivers.specs.Objects.{SelectsFor}
use Rattle.jvm_receivers.specs.Selected.{IsAnswer}
use Rattle.jvm_receivers.proofs.Absent.{nothing_selected, selected_row}
use Rattle.jvm_receivers.proofs.selected.call_answered.Goals as goal

pub call_selected-requires-clause-answer : goal.call_selected-requires-clause-answer
call_selected-requires-clause-answer c = subst (λ o. IfSome o (IsAnswer c.args.p.now)) c.in-Some.is c.requires.answer

pub returns-in_ok-done-in-Some-clause-row : goal.returns-in_ok-done-in-Some-clause-row
returns-in_ok-done-in-Some-clause-row c = λ x search r h.
    let p = c.args.p.now in
    selected_row p r x c.args.args.count search c.in-Some.answer c.in_ok-done-in-Some.done c.args.frames.now c.call_selected.new.frames c.args.world.now c.call_selected.new.world
    c.in_ok-done-in-Some.ensures.row (subst (SelectsFor p c.args.world.now x search) c.in-Some.is h)

pub returns-in-None-clause-row : goal.returns-in-None-clause-row
returns-in-None-clause-row c = λ x search r h.
    nothing_selected c.args.p.now c.args.world.now r x c.args.args.count search c.args.frames.now (subst (SelectsFor c.args.p.now c.args.world.now x search) c.in-None.is h)
