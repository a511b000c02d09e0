use Rattle.jvm_rows.proofs.Ends.{fits_there}
use Rattle.jvm_natives.proofs.giving.put.Goals as goal

pub put-requires-clause-room : goal.put-requires-clause-room
put-requires-clause-room c =
    fits_there c.args.frames.now.frame c.args.count c.args.v c.fits.result c.if-not-fits.false c.fits.ensures
