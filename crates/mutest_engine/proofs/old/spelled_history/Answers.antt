use Rattle.std.proofs.Common.{◌∙◌, Err, ap, sym}
use Rattle.mutest_engine.specs.Old.{or_bad_history}
use Rattle.mutest_engine.proofs.ReadLaws.{writable_formed}
use Rattle.mutest_engine.proofs.old.spelled_history.Goals as goal

pub returns-in-Err-clause-value : goal.returns-in-Err-clause-value
returns-in-Err-clause-value c = λ r e.
    let is = c.bad_history.ensures r e in
    ap or_bad_history (c.in-Err.ensures.read is.1) ∙ ap (λ x. Err x) (sym is.0)

pub returns-in-Ok-clause-value : goal.returns-in-Ok-clause-value
returns-in-Ok-clause-value c = ap or_bad_history c.in-Ok.ensures.read

pub returns-in-Ok-clause-form : goal.returns-in-Ok-clause-form
returns-in-Ok-clause-form c = writable_formed _ c.in-Ok.ensures.form
