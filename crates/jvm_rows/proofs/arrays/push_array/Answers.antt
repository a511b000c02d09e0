use Rattle.std.proofs.Common.{◌+◌, replicate}
use Rattle.program_rules.specs.declared.value.Value.TheVariants.{Null}
use Rattle.program_rules.specs.Kinds.{default_of}
use Rattle.machine_rules.specs.NewObjects.{array_of, new_array}
use Rattle.class_link.specs.Symbols.{kind_of}
use Rattle.jvm_rows.proofs.Ends.{fits_there}
use Rattle.jvm_rows.proofs.Making.{tells_allocate, room_not}
use Rattle.jvm_rows.proofs.arrays.push_array.Goals as goal

pub returns-then-not-fits-clause-row : goal.returns-then-not-fits-clause-row
returns-then-not-fits-clause-row c =
    let k = kind_of c.args.kind in
    let n = c.args.len in
    c.without_room.ensures.row (λ q v. new_array q v k n) 1 c.args.frames.now
    (tells_allocate c.args.p.now c.args.world.now (array_of k (replicate n (default_of k))) (2 + n) c.has_room-there.result c.has_room-there.ensures)
    (room_not c.args.frames.now.frame 1 Null c.fits.result c.if-not-fits.true c.fits.ensures)

pub push_made-requires-clause-room : goal.push_made-requires-clause-room
push_made-requires-clause-room c = fits_there c.args.frames.now.frame 1 Null c.fits.result c.if-not-fits.false c.fits.ensures

pub returns-clause-row : goal.returns-clause-row
returns-clause-row c =
    c.push_made.ensures c.args.p.now c.args.world.now c.new_array.new.self (λ q v. new_array q v (kind_of c.args.kind) c.args.len) c.in_ok-made.ensures.made
