use Rattle.std.proofs.Common.{Some}
use Rattle.mutest_engine.proofs.FaultLaws.{reads_on}
use Rattle.mutest_engine.specs.Refusals.{IsOfHistory}
use Rattle.mutest_engine.proofs.old.history_at.Goals as goal

pub returns-in-Ok-clause-tree : goal.returns-in-Ok-clause-tree
returns-in-Ok-clause-tree g c =
    let h = g.T.Tree.holds in
    let w = g.T.Tree.writing in
    let r = g.T.Tree.reading in
    let t = c.args.tree.now in
    let u = c.check_length.new.tree in
    let v = c.read_whole.new.tree in
    reads_on (IsOfHistory (Some c.args.path.now)) (h t) (h u) (h v) (w t) (w u) (w v) (r t) (r u) (r v) c.read_whole.result c.in-Ok.ensures.tree.0 c.read_whole.ensures.tree
