use Rattle.std.proofs.lemmas.Result.{err_from_is_err_and}
use Rattle.mutest_words.specs.Words.{as_run_options}
use Rattle.mutest_engine.proofs.FaultLaws.{is_read_on}
use Rattle.mutest_engine.proofs.ReadLaws.{known_is, loaded_halts, made_halts, old_halts, of_suite, of_made_stop, of_old}
use Rattle.mutest_engine.proofs.SeenLaws.{history_seen, loading_seen, making_seen}
use Rattle.mutest_engine.proofs.running.read_job.Goals as goal

pub returns-in_err-loaded-clause-refused : goal.returns-in_err-loaded-clause-refused
returns-in_err-loaded-clause-refused g c =
    let p = err_from_is_err_and c.from_residual.result c.from_residual.ensures.1 in
    rw (p.1, p.2) (loaded_halts (g.T.Tree.holds c.args.tree.now) (as_run_options c.args.options) c.in_err-loaded.field-0.0 c.in_err-loaded.ensures.value)

pub returns-in_err-loaded-clause-tree : goal.returns-in_err-loaded-clause-tree
returns-in_err-loaded-clause-tree g c =
    let p = err_from_is_err_and c.from_residual.result c.from_residual.ensures.1 in
    rw (p.1, p.2) (c.in_err-loaded.ensures.tree.0, of_suite (as_run_options c.args.options) c.in_err-loaded.field-0.0 _ _ c.in_err-loaded.ensures.tree.1)

pub returns-in_err-loaded-clause-seen : goal.returns-in_err-loaded-clause-seen
returns-in_err-loaded-clause-seen g c =
    let p = err_from_is_err_and c.from_residual.result c.from_residual.ensures.1 in
    rw (p.1, p.2) (loading_seen (as_run_options c.args.options) c.in_err-loaded.field-0.0 c.in_err-loaded.ensures.tree.1.0)

pub returns-in_err-suite-clause-refused : goal.returns-in_err-suite-clause-refused
returns-in_err-suite-clause-refused g c =
    let p = err_from_is_err_and c.from_residual-in_err-suite.result c.from_residual-in_err-suite.ensures.1 in
    rw p.1 (made_halts (g.T.Tree.holds c.args.tree.now) (as_run_options c.args.options) c.in_ok-loaded.loaded c.in_err-suite.field-0.0 p.0 c.in_ok-loaded.ensures.value c.in_err-suite.ensures.refused p.2)

pub returns-in_err-suite-clause-tree : goal.returns-in_err-suite-clause-tree
returns-in_err-suite-clause-tree g c =
    let p = err_from_is_err_and c.from_residual-in_err-suite.result c.from_residual-in_err-suite.ensures.1 in
    rw p.1 (c.in_ok-loaded.ensures.tree.0, of_made_stop (as_run_options c.args.options) c.in_ok-loaded.loaded c.in_err-suite.field-0.0 p.0 _ _ c.in_err-suite.ensures.refused p.2)

pub returns-in_err-suite-clause-seen : goal.returns-in_err-suite-clause-seen
returns-in_err-suite-clause-seen g c =
    let p = err_from_is_err_and c.from_residual-in_err-suite.result c.from_residual-in_err-suite.ensures.1 in
    rw p.1 (making_seen (as_run_options c.args.options) c.in_ok-loaded.loaded c.in_err-suite.field-0.0 p.0 c.in_ok-loaded.ensures.form c.in_err-suite.ensures.refused p.2)

pub returns-in_err-history-clause-refused : goal.returns-in_err-history-clause-refused
returns-in_err-history-clause-refused g c =
    let h = g.T.Tree.holds in
    let p = err_from_is_err_and c.from_residual-in_err-history.result c.from_residual-in_err-history.ensures.1 in
    rw (p.1, p.2) (old_halts (h c.args.tree.now) (h c.load_suite.new.tree) (as_run_options c.args.options) c.in_ok-loaded.loaded c.in_ok-suite.suite c.in_err-history.field-0.0 c.in_ok-loaded.ensures.tree.0.0 c.in_ok-loaded.ensures.value c.in_ok-suite.ensures.made c.in_err-history.ensures.value)

pub returns-in_err-history-clause-tree : goal.returns-in_err-history-clause-tree
returns-in_err-history-clause-tree g c =
    let h = g.T.Tree.holds in
    let w = g.T.Tree.writing in
    let r = g.T.Tree.reading in
    let t = c.args.tree.now in
    let u = c.load_suite.new.tree in
    let v = c.history_bytes.new.tree in
    let p = err_from_is_err_and c.from_residual-in_err-history.result c.from_residual-in_err-history.ensures.1 in
    rw (p.1, p.2) (of_old (as_run_options c.args.options) (h t) (h u) (h v) (w t) (w u) (w v) (r t) (r u) (r v) c.in_err-history.field-0.0 c.in_ok-loaded.ensures.tree.0 c.in_err-history.ensures.tree)

pub returns-in_err-history-clause-seen : goal.returns-in_err-history-clause-seen
returns-in_err-history-clause-seen g c =
    let p = err_from_is_err_and c.from_residual-in_err-history.result c.from_residual-in_err-history.ensures.1 in
    rw (p.1, p.2) (history_seen (as_run_options c.args.options) c.in_ok-loaded.loaded c.in_ok-suite.suite c.in_err-history.field-0.0 c.in_ok-loaded.ensures.form c.in_ok-suite.ensures.made c.in_err-history.ensures.tree.1.0)

pub returns-clause-known : goal.returns-clause-known
returns-clause-known g c =
    let h = g.T.Tree.holds in
    known_is (h c.args.tree.now) (h c.load_suite.new.tree) (as_run_options c.args.options) c.in_ok-loaded.loaded c.in_ok-suite.suite c.in_ok-history.history c.in_ok-loaded.ensures.tree.0.0 c.in_ok-loaded.ensures.value c.in_ok-loaded.ensures.form c.in_ok-suite.ensures.made c.in_ok-history.ensures.value c.in_ok-history.ensures.none

pub returns-clause-tree : goal.returns-clause-tree
returns-clause-tree g c =
    let h = g.T.Tree.holds in
    let w = g.T.Tree.writing in
    let r = g.T.Tree.reading in
    let t = c.args.tree.now in
    let u = c.load_suite.new.tree in
    let v = c.history_bytes.new.tree in
    (is_read_on (h t) (h u) (h v) (w t) (w u) (w v) (r t) (r u) (r v) c.in_ok-loaded.ensures.tree.0 c.in_ok-history.ensures.tree.0, tt)
