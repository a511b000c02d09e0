use Rattle.std.proofs.lemmas.List.Elements.{All-more}
use Rattle.history_rules.specs.Fitting.{FitsPair}
use Rattle.run_records.proofs.Texts.{all_of}
use Rattle.run_records.proofs.fitting.pairs_fit.Goals as goal

pub loop-pair-preserved : goal.loop-pair-preserved
loop-pair-preserved c =
    All-more FitsPair c.args.lines.now c.loop-pair.pair-index _ c.loop-pair-test.true c.loop-pair.invariant c.pair_fits.ensures

pub returns : goal.returns
returns c = all_of FitsPair c.args.lines.now c.loop-pair.pair-index c.loop-pair-test.false c.loop-pair.invariant
