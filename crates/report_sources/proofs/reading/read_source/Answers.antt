use Rattle.std.proofs.Common.{◌∙◌, List, ℕ, sym, subst}
use Rattle.report_sources.specs.Sources.{IsKnown}
use Rattle.report_sources.proofs.Listings.{known}
use Rattle.report_sources.proofs.reading.read_source.Goals as goal

pub read_listed-requires-clause-known : goal.read_listed-requires-clause-known
read_listed-requires-clause-known g c =
    let held = g.T.Tree.holds c.args.tree.now in
    subst (λ (path : List ℕ). IsKnown held c.args.listed.now path) (sym (c.as_str.ensures.value ∙ c.in_ok-path.ensures))
    (known held c.args.folder.now c.args.key.now c.args.listed.now c.requires.names)
