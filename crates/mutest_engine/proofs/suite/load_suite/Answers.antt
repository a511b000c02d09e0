use Rattle.mutest_engine.proofs.FaultLaws.{reads_on}
use Rattle.mutest_engine.specs.Refusals.{IsLoading}
use Rattle.mutest_engine.proofs.suite.load_suite.Goals as goal

pub returns-in-Ok-clause-tree : goal.returns-in-Ok-clause-tree
returns-in-Ok-clause-tree g c =
    let h = g.T.Tree.holds in
    let w = g.T.Tree.writing in
    let r = g.T.Tree.reading in
    let t = c.args.tree.now in
    let u = c.list_both.new.tree in
    let v = c.read_suite.new.tree in
    reads_on IsLoading (h t) (h u) (h v) (w t) (w u) (w v) (r t) (r u) (r v) c.read_suite.result c.in-Ok.ensures.tree.0 c.read_suite.ensures.tree
