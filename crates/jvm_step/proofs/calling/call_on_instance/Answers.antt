use Rattle.jvm_step.proofs.Readied.{instance_used, no_instance}
use Rattle.jvm_step.proofs.calling.call_on_instance.Goals as goal

pub returns-in_ok-turn-in-Some-clause-row : goal.returns-in_ok-turn-in-Some-clause-row
returns-in_ok-turn-in-Some-clause-row c =
    instance_used c.args.p.now c.args.site c.in-Some.x c.in_ok-turn-in-Some.turn c.enter.new.frames c.args.world.now c.enter.new.world
    c.in-Some.is c.in_ok-turn-in-Some.ensures.row

pub returns-in-None-clause-row : goal.returns-in-None-clause-row
returns-in-None-clause-row c =
    no_instance c.args.p.now c.args.site c.args.frames.now c.args.world.now c.args.world.now c.in-None.is
