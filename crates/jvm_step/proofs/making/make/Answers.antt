use Rattle.std.proofs.Common.{refl}
use Rattle.jvm_step.proofs.Readied.{made_used}
use Rattle.jvm_step.proofs.making.make.Goals as goal

pub returns-in_ok-turn-in-Some-clause-row : goal.returns-in_ok-turn-in-Some-clause-row
returns-in_ok-turn-in-Some-clause-row c =
    made_used c.args.p.now c.args.site c.in_ok-layout.layout c.instance_of-object.result _ c.args.world.now c.allocate.new.self
    c.in_ok-layout.ensures.layout c.instance_of-object.ensures refl
    c.in_ok-made.made c.in-Some.x c.in_ok-turn-in-Some.turn c.enter.new.frames c.set_instance.new.self c.enter.new.world
    c.in-Some.is c.in_ok-made.ensures.made c.in_ok-made.ensures.kept.limits c.set_instance.ensures.moves c.set_instance.ensures.kept.limits
    c.in_ok-turn-in-Some.ensures.row
