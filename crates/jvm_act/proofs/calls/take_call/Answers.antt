use Rattle.jvm_act.proofs.Called.{calls_named, no_method}
use Rattle.jvm_act.proofs.calls.take_call.Goals as goal

pub returns-in_ok-turn-in-Some-clause-row : goal.returns-in_ok-turn-in-Some-clause-row
returns-in_ok-turn-in-Some-clause-row c =
    calls_named c.args.p.now c.args.class.0 c.args.index c.args.how c.in-Some.reference.now c.in_ok-turn-in-Some.turn
    c.args.frames.now c.call_method.new.frames c.args.world.now c.call_method.new.world
    c.in-Some.ensures.some c.in_ok-turn-in-Some.ensures.row

pub returns-in-None-clause-row : goal.returns-in-None-clause-row
returns-in-None-clause-row c =
    no_method c.args.p.now c.args.class.0 c.args.index c.args.how c.args.frames.now c.args.world.now c.in-None.ensures.none
