use Rattle.std.proofs.Common.{◌+◌, length}
use Rattle.lib_core.proofs.Fewer.{object_few, few_slots}
use Rattle.lib_core.proofs.performing.make_chars.Goals as goal

pub returns-in-Ok-clause-few : goal.returns-in-Ok-clause-few
returns-in-Ok-clause-few c =
    let o = c.in_ok-array.array in
    let count = length c.args.units.now in
    object_few o (1 + (1 + count)) c.args.heap.now c.add.new.self
    (few_slots (length o.values) count c.in_ok-array.ensures.slots) c.in-Ok.ensures.heap c.in-Ok.ensures.fits
