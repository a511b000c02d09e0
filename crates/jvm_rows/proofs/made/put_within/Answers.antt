use Rattle.jvm_rows.specs.Rows.{putting}
use Rattle.jvm_rows.proofs.Ends.{no_row, put_runs, fits_not, fits_there}
use Rattle.jvm_rows.proofs.Loading.{no_room}
use Rattle.jvm_rows.proofs.made.put_within.Goals as goal

pub put-requires-clause-room : goal.put-requires-clause-room
put-requires-clause-room c = fits_there c.args.frames.now.frame c.args.count c.args.value c.fits.result c.if-fits.true c.fits.ensures

pub returns-else-fits : goal.returns-else-fits
returns-else-fits c = λ p w.
    let old = c.args.frames.now in
    no_row p (putting c.args.count c.args.value) old w
    (no_room p old w c.args.count c.args.value (fits_not old.frame c.args.count c.args.value c.fits.result c.if-fits.false c.fits.ensures))

pub returns-then-fits : goal.returns-then-fits
returns-then-fits c = λ p w. put_runs p c.args.count c.args.value c.args.frames.now c.put.new.self w c.put.ensures
