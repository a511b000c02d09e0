use Rattle.std.proofs.Common.{◌+◌}
use Rattle.lib_core.proofs.Fewer.{object_few, no_slots}
use Rattle.lib_core.proofs.performing.make.Goals as goal

pub returns-in-Ok-clause-few : goal.returns-in-Ok-clause-few
returns-in-Ok-clause-few c =
    let o = c.new_object-object.result in
    object_few o (1 + c.args.words) c.args.heap.now c.add.new.self
    (no_slots o (1 + c.args.words) c.new_object-object.ensures.empty) c.in-Ok.ensures.heap c.in-Ok.ensures.fits
