use Rattle.jvm_natives.proofs.Ended.{within_given}
use Rattle.jvm_natives.proofs.ending.give_within.Goals as goal

pub returns-then-of_class-clause-row : goal.returns-then-of_class-clause-row
returns-then-of_class-clause-row c = λ r.
    within_given c.args.p.now r c.args.args.count c.args.object c.args.name.now c.args.v c.args.fault c.in_ok-within.within c.in-Some.of_class c.give-given.result
    c.args.frames.now c.give-given.new.frames c.args.world.now
    c.in_ok-within.ensures c.in-Some.is c.if-of_class.true (c.give-given.ensures.row c.args.p.now r c.args.world.now)
