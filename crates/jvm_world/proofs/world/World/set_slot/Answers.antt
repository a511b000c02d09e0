use Rattle.jvm_world.proofs.Lengths.{kept_set}
use Rattle.jvm_world.proofs.Slots.{sets_by}
use Rattle.jvm_world.proofs.world.World.set_slot.Goals as goal

pub returns-clause-sets : goal.returns-clause-sets
returns-clause-sets c =
    sets_by c.args.p.now c.args.self.now c.set.new.self c.args.object c.args.slot c.args.value
    c.set.result c.set.ensures.there c.set.ensures.set

pub returns-clause-kept : goal.returns-clause-kept
returns-clause-kept c =
    kept_set c.args.p.now c.args.self.now c.set.new.self c.args.object c.args.slot c.args.value
    c.set.result c.requires.world c.set.ensures.set c.set.ensures.absent
