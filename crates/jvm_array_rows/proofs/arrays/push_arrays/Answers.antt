use Rattle.program_rules.specs.declared.value.Value.TheVariants.{Null}
use Rattle.jvm_array_rows.specs.Built.{making}
use Rattle.jvm_rows.proofs.Ends.{fits_there}
use Rattle.jvm_rows.proofs.Making.{room_not}
use Rattle.jvm_array_rows.proofs.arrays.push_arrays.Goals as goal

pub returns-then-not-fits-clause-row : goal.returns-then-not-fits-clause-row
returns-then-not-fits-clause-row c =
    c.without_room.ensures.row (making c.args.name.now c.args.counts.now) c.args.count c.args.frames.now (c.has_room_in-there.ensures c.args.name.now)
    (room_not c.args.frames.now.frame c.args.count Null c.fits.result c.if-not-fits.true c.fits.ensures)

pub push_made-requires-clause-room : goal.push_made-requires-clause-room
push_made-requires-clause-room c = fits_there c.args.frames.now.frame c.args.count Null c.fits.result c.if-not-fits.false c.fits.ensures

pub returns-clause-row : goal.returns-clause-row
returns-clause-row c =
    c.push_made.ensures c.args.p.now c.args.world.now c.build_in.new.world (making c.args.name.now c.args.counts.now) c.in_ok-made.ensures.made
