use Rattle.std.proofs.Common.{◌∙◌, Err, ap, sym, subst}
use Rattle.mutest_engine.specs.Jobs.{or_long}
use Rattle.mutest_engine.specs.Refusals.{IsOfRuns}
use Rattle.mutest_engine.proofs.RefusalLaws.{of_written}
use Rattle.mutest_engine.proofs.job.written.Goals as goal

pub returns-in-Ok-clause-value : goal.returns-in-Ok-clause-value
returns-in-Ok-clause-value c = ap or_long c.in-Ok.ensures

pub returns-in-Err-clause-value : goal.returns-in-Err-clause-value
returns-in-Err-clause-value c = λ r e.
    let is = c.long_history.ensures r e in
    ap or_long (c.in-Err.ensures is.1) ∙ ap (λ x. Err x) (sym is.0)

pub returns-in-Err-clause-refusal : goal.returns-in-Err-clause-refusal
returns-in-Err-clause-refusal c = λ r e.
    let is = c.long_history.ensures r e in
    subst IsOfRuns (sym is.0) (of_written c.args.history.records c.in-Err.fault (c.in-Err.ensures is.1))
