use Rattle.jvm_rows.specs.declared.effect.Effect.TheVariants as effect
use Rattle.jvm_rows.specs.Rows.{getting_from, putting}
use Rattle.jvm_rows.proofs.Ends.{along, no_row, nothing, put_runs, fits_not, fits_there}
use Rattle.jvm_rows.proofs.Loading.{no_room, same_after}
use Rattle.jvm_rows.proofs.Fielding.{get_nothing, get_value}
use Rattle.jvm_rows.proofs.fields.get_from.Goals as goal

pub put-requires-clause-room : goal.put-requires-clause-room
put-requires-clause-room c = fits_there c.args.frames.now.frame 1 c.in-Some.value c.fits.result c.if-fits.true c.fits.ensures

pub returns-else-fits : goal.returns-else-fits
returns-else-fits c =
    let p = c.args.p.now in
    let w = c.args.world.now in
    let old = c.args.frames.now in
    let row = getting_from c.args.slot c.args.object in
    let v = c.in-Some.value in
    no_row p row old w
    (same_after p row (putting 1 v) nothing old w
    (get_value p old w c.args.slot c.args.object v c.in-Some.ensures)
    (no_room p old w 1 v (fits_not old.frame 1 v c.fits.result c.if-fits.false c.fits.ensures)))

pub returns-then-fits : goal.returns-then-fits
returns-then-fits c =
    let p = c.args.p.now in
    let w = c.args.world.now in
    let old = c.args.frames.now in
    let v = c.in-Some.value in
    along p (getting_from c.args.slot c.args.object) (putting 1 v) effect.Goes old c.put.new.self w w
    (get_value p old w c.args.slot c.args.object v c.in-Some.ensures)
    (put_runs p 1 v old c.put.new.self w c.put.ensures)

pub returns-in-None : goal.returns-in-None
returns-in-None c =
    no_row c.args.p.now (getting_from c.args.slot c.args.object) c.args.frames.now c.args.world.now
    (get_nothing c.args.p.now c.args.frames.now c.args.world.now c.args.slot c.args.object c.in-None.ensures)
