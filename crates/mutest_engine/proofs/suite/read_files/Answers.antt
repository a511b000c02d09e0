use Rattle.std.proofs.lemmas.Result.{err_from_is_err_and}
use Rattle.mutest_engine.proofs.FaultLaws.{halts_on}
use Rattle.mutest_engine.specs.Refusals.{IsLoading}
use Rattle.mutest_engine.proofs.suite.read_files.Goals as goal

pub returns-in_err-file-clause-tree : goal.returns-in_err-file-clause-tree
returns-in_err-file-clause-tree g c =
    let p = err_from_is_err_and c.from_residual.result c.from_residual.ensures.1 in
    let h = g.T.Tree.holds in
    let w = g.T.Tree.writing in
    let r = g.T.Tree.reading in
    let t = c.args.tree.now in
    let u = c.loop-path.tree in
    let v = c.read_one.new.tree in
    rw (p.1, p.2) (halts_on IsLoading (h t) (h u) (h v) (w t) (w u) (w v) (r t) (r u) (r v) c.in_err-file.field-0.0 c.loop-path.invariant.tree c.in_err-file.ensures.tree)
