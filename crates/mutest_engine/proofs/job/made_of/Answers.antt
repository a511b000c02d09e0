use Rattle.std.proofs.lemmas.Result.{err_from_is_err_and}
use Rattle.mutest_engine.proofs.JobLaws.{left_made, left_refused}
use Rattle.mutest_engine.proofs.job.made_of.Goals as goal

pub returns-in_err-history-clause-value : goal.returns-in_err-history-clause-value
returns-in_err-history-clause-value c =
    let q = err_from_is_err_and c.from_residual.result c.from_residual.ensures.1 in
    rw (q.1, q.2) (λ r e. left_refused c.args.done.verdicts c.args.done.history r (c.in_err-history.ensures.value r e))

pub returns-clause-value : goal.returns-clause-value
returns-clause-value c = left_made c.args.done.verdicts c.args.done.history c.in_ok-history.history c.reused-reused.result c.in_ok-history.ensures.value c.reused-reused.ensures
