use Rattle.program_rules.specs.declared.value.Value.TheVariants.{Null}
use Rattle.machine_rules.specs.NewObjects.{object_of_class}
use Rattle.jvm_rows.proofs.Ends.{fits_there}
use Rattle.jvm_rows.proofs.Making.{room_not}
use Rattle.jvm_rows.proofs.constants.load_class.Goals as goal

pub returns-then-not-fits-clause-row : goal.returns-then-not-fits-clause-row
returns-then-not-fits-clause-row c =
    c.without_room.ensures.row (λ q v. object_of_class q v c.args.name.now) 0 c.args.frames.now c.has_room_for_class-there.ensures
    (room_not c.args.frames.now.frame 0 Null c.fits.result c.if-not-fits.true c.fits.ensures)

pub push_made-requires-clause-room : goal.push_made-requires-clause-room
push_made-requires-clause-room c = fits_there c.args.frames.now.frame 0 Null c.fits.result c.if-not-fits.false c.fits.ensures

pub returns-clause-row : goal.returns-clause-row
returns-clause-row c =
    c.push_made.ensures c.args.p.now c.args.world.now c.class_object.new.self (λ q v. object_of_class q v c.args.name.now) c.in_ok-made.ensures.made
