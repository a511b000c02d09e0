use Rattle.std.proofs.Common.{◌+◌, ap, subst, []}
use Rattle.program_rules.specs.declared.value.Value.TheVariants.{Null}
use Rattle.program_rules.specs.Objects.{Plain}
use Rattle.program_rules.specs.Objects as objects
use Rattle.machine_rules.specs.Effects.{allocate}
use Rattle.class_table.specs.Table.{name_at}
use Rattle.jvm_world.specs.View.{Allocates, object_of}
use Rattle.jvm_rows.proofs.Ends.{fits_there}
use Rattle.jvm_rows.specs.Making.{makes_plain}
use Rattle.jvm_rows.proofs.Making.{tells_allocate, room_not}
use Rattle.jvm_rows.proofs.instances.push_instance.Goals as goal

pub returns-then-not-fits-clause-row : goal.returns-then-not-fits-clause-row
returns-then-not-fits-clause-row c =
    let p = c.args.p.now in
    c.without_room.ensures.row (makes_plain p c.args.class.0 c.args.values c.args.more) 0 c.args.frames.now
    (tells_allocate p c.args.world.now (record { kind = Plain (name_at p c.args.class.0); values = c.args.values; text = []; items = [] }) (1 + c.args.more) c.has_room-there.result c.has_room-there.ensures)
    (room_not c.args.frames.now.frame 0 Null c.fits.result c.if-not-fits.true c.fits.ensures)

pub push_made-requires-clause-room : goal.push_made-requires-clause-room
push_made-requires-clause-room c = fits_there c.args.frames.now.frame 0 Null c.fits.result c.if-not-fits.false c.fits.ensures

pub returns-clause-row : goal.returns-clause-row
returns-clause-row c =
    let p = c.args.p.now in
    let w = c.args.world.now in
    c.push_made.ensures p w c.allocate.new.self (makes_plain p c.args.class.0 c.args.values c.args.more)
    (subst (λ (o : objects.Object). Allocates p w c.allocate.new.self (λ v. allocate w.limits v o (1 + c.args.more)) c.in_ok-made.made)
    (ap (object_of p) c.plain_object-object.ensures) c.in_ok-made.ensures.made)
