use Rattle.std.proofs.Common.{◌∙◌, sym, ap}
use Rattle.test_discovery.specs.Listed.{listed_of, downwards}
use Rattle.test_discovery.specs.Rules.{fault_with}
use Rattle.test_discovery.specs.Searching.{behind}
use Rattle.test_discovery.proofs.Counts.{counts_with, no_runner}
use Rattle.test_discovery.proofs.count.count_with.Goals as goal

pub returns : goal.returns
returns c =
    let by_class = listed_of (behind c.args.classes.now) in
    counts_with c.args.class.now by_class c.as_slice.result.now (fault_with c.args.class.now (downwards by_class)) c.count_listed.result
    (c.as_slice.ensures ∙ c.in_ok-listed.ensures ∙ ap downwards c.in_ok-by_class.ensures)
    (no_runner c.args.class.now (downwards by_class) (sym c.uses_runner.ensures ∙ c.if-uses_runner.false))
    c.count_listed.ensures
