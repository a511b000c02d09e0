use Rattle.std.proofs.Common.{◌≡◌, sym, subst}
use Rattle.std.specs.Prelude.{IfSome, Some, Err}
use Rattle.mutest_engine.specs.Refusals.{IsOfSources}
use Rattle.mutest_engine.specs.Sources.{sources_below}
use Rattle.mutest_engine.specs.Steps.{Halts, RefusesReading}
use Rattle.mutest_engine.specs.declared.stop.Halt.{Halt}
use Rattle.mutest_engine.proofs.SourceLaws.{read_so, refused_so, only_read, halts_so}
use Rattle.mutest_engine.proofs.sources.sources_below.Goals as goal

pub returns-in-Ok-clause-value : goal.returns-in-Ok-clause-value
returns-in-Ok-clause-value g c = read_so (g.T.Tree.holds c.args.tree.now) c.args.folder.now c.args.groups.now c.in-Ok.sources c.in-Ok.ensures.value

pub returns-in-Ok-clause-tree : goal.returns-in-Ok-clause-tree
returns-in-Ok-clause-tree g c =
    let h = g.T.Tree.holds in
    let w = g.T.Tree.writing in
    let r = g.T.Tree.reading in
    let t = c.args.tree.now in
    let u = c.read_sources.new.tree in
    (only_read (h t) (h u) (w t) (w u) (r t) (r u) c.in-Ok.ensures.tree.0, tt)

pub returns-in-Err-clause-value : goal.returns-in-Err-clause-value
returns-in-Err-clause-value g c =
    let held = g.T.Tree.holds c.args.tree.now in
    let folder = c.args.folder.now in
    let groups = c.args.groups.now in
    subst (λ (h : Halt). IfSome held (λ files. RefusesReading (λ r. sources_below folder groups files ≡ Err r) h)) (sym c.halt_of.ensures)
    (refused_so held folder groups c.in-Err.fault c.in-Err.ensures.value)

pub returns-in-Err-clause-tree : goal.returns-in-Err-clause-tree
returns-in-Err-clause-tree g c =
    let h = g.T.Tree.holds in
    let w = g.T.Tree.writing in
    let r = g.T.Tree.reading in
    let t = c.args.tree.now in
    let u = c.read_sources.new.tree in
    (only_read (h t) (h u) (w t) (w u) (r t) (r u) c.in-Err.ensures.tree.0, subst (λ (x : Halt). Halts (IsOfSources (Some c.args.folder.now)) (r t) (r u) x) (sym c.halt_of.ensures) (halts_so c.args.folder.now (r t) (r u) c.in-Err.fault c.in-Err.ensures.tree.1))
