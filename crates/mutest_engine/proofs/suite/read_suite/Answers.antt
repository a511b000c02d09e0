use Rattle.mutest_engine.specs.Refusals.{IsLoading}
use Rattle.std.proofs.Common.{map}
use Rattle.std.specs.Prelude.{string_bytes}
use Rattle.std.proofs.lemmas.Result.{err_from_is_err_and}
use Rattle.mutest_engine.proofs.FaultLaws.{halts_on}
use Rattle.mutest_engine.proofs.SuiteLaws.{second_refused}
use Rattle.mutest_engine.proofs.suite.read_suite.Goals as goal

pub returns-in_err-tests-clause-value : goal.returns-in_err-tests-clause-value
returns-in_err-tests-clause-value g c =
    let p = err_from_is_err_and c.from_residual-in_err-tests.result c.from_residual-in_err-tests.ensures.1 in
    let held = g.T.Tree.holds in
    rw (p.1, p.2) (second_refused (held c.args.tree.now) (held c.read_files.new.tree) (map string_bytes c.args.classes.now) (map string_bytes c.args.tests.now) c.in_ok-classes.classes c.read_files.new.sum c.in_err-tests.field-0.0 c.in_ok-classes.ensures.tree.0.0 c.in_ok-classes.ensures.value c.in_ok-classes.ensures.sum c.in_err-tests.ensures.value)

pub returns-in_err-tests-clause-tree : goal.returns-in_err-tests-clause-tree
returns-in_err-tests-clause-tree g c =
    let p = err_from_is_err_and c.from_residual-in_err-tests.result c.from_residual-in_err-tests.ensures.1 in
    let h = g.T.Tree.holds in
    let w = g.T.Tree.writing in
    let r = g.T.Tree.reading in
    let t = c.args.tree.now in
    let u = c.read_files.new.tree in
    let v = c.read_files-2.new.tree in
    rw (p.1, p.2) (halts_on IsLoading (h t) (h u) (h v) (w t) (w u) (w v) (r t) (r u) (r v) c.in_err-tests.field-0.0 c.in_ok-classes.ensures.tree.0 c.in_err-tests.ensures.tree)
