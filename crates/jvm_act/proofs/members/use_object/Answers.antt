use Rattle.jvm_act.proofs.Fielded.{known_at, known_frames}
use Rattle.jvm_act.proofs.members.use_object.Goals as goal

pub returns-in_ok-done-in-Some-clause-row : goal.returns-in_ok-done-in-Some-clause-row
returns-in_ok-done-in-Some-clause-row c =
    known_at c.args.p.now c.args.class.0 c.args.index c.in-Some.field c.args.access c.in_ok-done-in-Some.done c.turn_of-turn.result c.args.frames.now c.access_known.new.frames c.args.world.now c.access_known.new.world
    c.turn_of-turn.ensures c.in-Some.ensures c.in_ok-done-in-Some.ensures.row

pub returns-in_ok-done-in-Some-clause-frames : goal.returns-in_ok-done-in-Some-clause-frames
returns-in_ok-done-in-Some-clause-frames c =
    known_frames c.args.p.now c.args.class.0 c.args.index c.in-Some.field c.args.access c.in_ok-done-in-Some.done c.args.frames.now c.access_known.new.frames c.args.world.now c.access_known.new.world
    c.in-Some.ensures c.in_ok-done-in-Some.ensures.row c.requires.runs c.requires.frames
