use Rattle.std.proofs.Common.{◌≡◌, ◌≤◌, drop, map}
use Rattle.std.specs.Prelude.{IfSome}
use Rattle.mt_edge.specs.Files.{Files}
use Rattle.report_schema.specs.Report.{text_or_empty}
use Rattle.report_sources.specs.Sources.{IsRead, sources_from, sources_of, with_sources}
use Rattle.report_sources.proofs.reading.read_all.Given as goal

abbrev pub invariant-loop-group : goal.invariant-loop-group
invariant-loop-group g l = record {
  told : IfSome (g.T.Tree.holds l.initial.tree) (λ (files : Files). with_sources l.sources (sources_from l.sum l.folder (map (λ group. text_or_empty group.key) (drop l.group-index l.groups)) files) ≡ sources_of l.folder l.groups files);
  tree : IsRead (g.T.Tree.holds l.initial.tree) (g.T.Tree.holds l.tree) (g.T.Tree.writing l.initial.tree) (g.T.Tree.writing l.tree) (g.T.Tree.reading l.initial.tree) (g.T.Tree.reading l.tree);
  few : l.sum ≤ 67108864;
}
