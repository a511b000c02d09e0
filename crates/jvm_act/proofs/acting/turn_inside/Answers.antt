use Rattle.jvm_act.specs.Methods.{meaning}
use Rattle.jvm_act.proofs.Executed.{inside_keeps}
use Rattle.jvm_act.proofs.acting.turn_inside.Goals as goal

pub returns-clause-frames : goal.returns-clause-frames
returns-clause-frames c =
    let p = c.args.p.now in
    inside_keeps p (meaning p c.args.class.0 c.args.method.now c.args.op) c.in_ok-done.done c.args.frames.now c.act_inside.new.frames c.args.world.now c.act_inside.new.world
    c.in_ok-done.ensures.row c.requires.runs c.requires.frames
