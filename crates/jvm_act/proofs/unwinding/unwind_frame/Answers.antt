use Rattle.jvm_act.proofs.Handled.{turned, keeps}
use Rattle.jvm_act.proofs.unwinding.unwind_frame.Goals as goal

pub returns-clause-row : goal.returns-clause-row
returns-clause-row c =
    turned c.args.p.now c.args.object c.in_ok-turn.turn c.args.frames.now c.unwind.new.frames c.args.world.now c.unwind.new.world c.in_ok-turn.ensures.row

pub returns-clause-frames : goal.returns-clause-frames
returns-clause-frames c =
    keeps c.args.p.now c.args.method.now c.args.frames.now c.unwind.new.frames c.requires.runs c.in_ok-turn.ensures.frames c.requires.frames
