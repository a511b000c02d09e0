use Rattle.history_rules.specs.Fitting.{FitsEntry}
use Rattle.run_records.proofs.Texts.{all_more, all_taken, not_all}
use Rattle.run_records.proofs.fitting.all_fit.Goals as goal

pub returns-then-not-fits : goal.returns-then-not-fits
returns-then-not-fits c =
    not_all FitsEntry c.args.entries.now c.loop-entry.entry-index c.entry-item.result c.fits.result c.loop-entry-test.true c.entry-item.is c.fits.ensures.1 c.if-not-fits.true

pub loop-entry-preserved : goal.loop-entry-preserved
loop-entry-preserved c =
    all_more FitsEntry c.args.entries.now c.loop-entry.entry-index c.entry-item.result c.loop-entry-test.true c.entry-item.is c.loop-entry.invariant (c.fits.ensures.0 c.if-not-fits.false)

pub returns : goal.returns
returns c = all_taken FitsEntry c.args.entries.now c.loop-entry.entry-index c.loop-entry-test.false c.loop-entry.invariant
