use Rattle.jvm_act.proofs.Framed.{returns_keep_frames}
use Rattle.jvm_act.proofs.returns.take_return.Goals as goal

pub returns-in-Int-clause-frames : goal.returns-in-Int-clause-frames
returns-in-Int-clause-frames c =
    returns_keep_frames c.args.p.now c.args.frames.now c.return_int-turn.new.frames c.return_int-turn.ensures.frames c.requires.frames

pub returns-in-Long-clause-frames : goal.returns-in-Long-clause-frames
returns-in-Long-clause-frames c =
    returns_keep_frames c.args.p.now c.args.frames.now c.return_long-turn.new.frames c.return_long-turn.ensures.frames c.requires.frames

pub returns-in-Reference-clause-frames : goal.returns-in-Reference-clause-frames
returns-in-Reference-clause-frames c =
    returns_keep_frames c.args.p.now c.args.frames.now c.return_reference-turn.new.frames c.return_reference-turn.ensures.frames c.requires.frames

pub returns-in_ok-turn-in-Plain-clause-frames : goal.returns-in_ok-turn-in-Plain-clause-frames
returns-in_ok-turn-in-Plain-clause-frames c =
    returns_keep_frames c.args.p.now c.args.frames.now c.return_plain.new.frames c.in_ok-turn-in-Plain.ensures.frames c.requires.frames
