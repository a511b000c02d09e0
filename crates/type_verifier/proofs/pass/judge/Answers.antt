use Rattle.std.proofs.Common.{◌∙◌}
use Rattle.type_verifier.proofs.Judging.{judged_by, none_then}
use Rattle.type_verifier.proofs.pass.judge.Goals as goal

pub returns-in_ok-answer-in-None : goal.returns-in_ok-answer-in-None
returns-in_ok-answer-in-None c s x e =
    judged_by s c.args.site.now c.args.handlers.now c.args.at c.enter.new.f c.row_with_handlers.new.f c.in-Some.instruction.now c.in_ok-answer-in-None.answer
    x (none_then c.in_ok-rule.field-0 _ c.in_ok-rule.ensures.begins c.in-None.is s x.setting e) (c.falls_out.ensures s x.setting ∙ c.if-falls_out.false) c.in-Some.ensures c.in_ok-answer-in-None.ensures
