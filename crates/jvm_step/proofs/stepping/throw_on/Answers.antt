use Rattle.jvm_step.proofs.Going.{room_to_land, runs_code, throws}
use Rattle.jvm_step.proofs.stepping.throw_on.Goals as goal

pub unwind_frame-requires-clause-runs : goal.unwind_frame-requires-clause-runs
unwind_frame-requires-clause-runs c =
    let at = c.args.place in
    runs_code c.args.p.now c.args.frames.now at.class.0 at.method at.at c.requires.place c.in-Some.method.now c.in-Some.ensures.code

pub unwind_frame-requires-clause-room : goal.unwind_frame-requires-clause-room
unwind_frame-requires-clause-room c =
    room_to_land c.args.p.now c.args.place.class.0 c.args.place.method c.in-Some.method.now c.requires.room c.in-Some.ensures.code

pub returns-clause-row : goal.returns-clause-row
returns-clause-row c =
    let at = c.args.place in
    throws c.args.p.now at.class.0 at.method at.at c.args.object c.in_ok-turn.turn c.args.frames.now c.unwind_frame.new.frames c.args.world.now c.unwind_frame.new.world
    c.requires.place c.in_ok-turn.ensures.row
