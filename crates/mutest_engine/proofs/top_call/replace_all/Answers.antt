use Rattle.std.proofs.Common.{arith}
use Rattle.std.proofs.lemmas.Result.{err_from_is_err_and}
use Rattle.mutest_engine.proofs.Ends.{left_at}
use Rattle.mutest_engine.proofs.top_call.replace_all.Goals as goal

pub returns-in_err-replace-clause-left : goal.returns-in_err-replace-clause-left
returns-in_err-replace-clause-left g c =
    let p = err_from_is_err_and c.from_residual.result c.from_residual.ensures.1 in
    let new = g.T.Tree.holds c.replace.new.tree in
    rw (p.1, p.2) (c.loop-write.invariant.left c.in_err-replace.field-0.0 new (left_at c.args.writes.now c.loop-write.write-index c.write-item.result (g.T.Tree.holds c.loop-write.tree) new c.in_err-replace.field-0.0 (grind (arith, c.loop-write-test.true)) c.write-item.is c.in_err-replace.ensures.left))
