use Rattle.type_verifier.proofs.Judging.{answered_by}
use Rattle.type_verifier.proofs.pass.row_with_handlers.Goals as goal

pub returns : goal.returns
returns c s x =
    answered_by s c.args.site.now c.args.handlers.now c.args.at c.args.f.now c.handlers_fit.new.f c.row.new.f c.args.instruction c.in_ok-fit.fit c.in_ok-answer.answer c.with_handlers.result
    x c.in_ok-fit.ensures.fit c.in_ok-fit.ensures.same c.in_ok-answer.ensures c.with_handlers.ensures
