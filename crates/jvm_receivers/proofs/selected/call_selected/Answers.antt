use Rattle.std.proofs.Common.{subst}
use Rattle.jvm_link.specs.Answers.{AnswersCall}
use Rattle.jvm_receivers.specs.Selected.{IsAnswer}
use Rattle.jvm_receivers.proofs.Selecting.{answer_there, selected_calls, selected_throws}
use Rattle.jvm_receivers.proofs.selected.call_selected.Goals as goal

pub call_found-requires-clause-callee : goal.call_found-requires-clause-callee
call_found-requires-clause-callee c = answer_there c.args.p.now c.in-Ok.callee (subst (IsAnswer c.args.p.now) c.in-Ok.is c.requires.answer)

pub returns-in_ok-done-in-Ok-clause-row : goal.returns-in_ok-done-in-Ok-clause-row
returns-in_ok-done-in-Ok-clause-row c = λ a r h.
    selected_calls c.args.p.now r c.args.args.count c.in-Ok.callee c.in_ok-done-in-Ok.done c.args.frames.now c.call_found.new.frames c.args.world.now c.call_found.new.world
    c.in_ok-done-in-Ok.ensures.row a (subst (AnswersCall c.args.p.now a) c.in-Ok.is h)

pub returns-in_ok-thrown-in-Err-clause-row : goal.returns-in_ok-thrown-in-Err-clause-row
returns-in_ok-thrown-in-Err-clause-row c = λ a r h.
    let old = c.args.frames.now in
    selected_throws c.args.p.now r c.args.args.count c.in-Err.fault c.in_ok-thrown-in-Err.thrown old old c.args.world.now c.throw.new.world
    (c.in_ok-thrown-in-Err.ensures.throws old r) a (subst (AnswersCall c.args.p.now a) c.in-Err.is h)
