use Rattle.std.proofs.Common.{◌+◌}
use Rattle.jvm_world.proofs.Lengths.{kept_with, short_object}
use Rattle.jvm_world.proofs.world.World.allocate.Goals as goal

pub returns-in-Ok-clause-kept : goal.returns-in-Ok-clause-kept
returns-in-Ok-clause-kept c =
    let p = c.args.p.now in
    let w = c.args.self.now in
    let words = 1 + c.args.more in
    kept_with p w c.add.new.self c.args.object words c.requires.world c.in-Ok.ensures.heap
    (short_object p w c.args.object words c.requires.world c.in-Ok.ensures.fits c.requires.slots)
