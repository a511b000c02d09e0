use Rattle.jvm_act.proofs.Fielded.{made, no_object}
use Rattle.jvm_act.proofs.Framed.{fields_keep_frames}
use Rattle.jvm_act.proofs.members.make_at.Goals as goal

pub returns-in_ok-turn-in-Some-clause-frames : goal.returns-in_ok-turn-in-Some-clause-frames
returns-in_ok-turn-in-Some-clause-frames c =
    fields_keep_frames c.args.p.now c.args.frames.now c.make_object.new.frames c.requires.runs c.in_ok-turn-in-Some.ensures.frames c.requires.frames

pub returns-in_ok-turn-in-Some-clause-row : goal.returns-in_ok-turn-in-Some-clause-row
returns-in_ok-turn-in-Some-clause-row c =
    made c.args.p.now c.args.class.0 c.args.index c.in-Some.name.now c.in_ok-turn-in-Some.turn c.args.frames.now c.make_object.new.frames c.args.world.now c.make_object.new.world
    c.in-Some.ensures.some c.in_ok-turn-in-Some.ensures.row

pub returns-in-None-clause-row : goal.returns-in-None-clause-row
returns-in-None-clause-row c =
    no_object c.args.p.now c.args.class.0 c.args.index c.args.frames.now c.args.world.now c.in-None.ensures.none
