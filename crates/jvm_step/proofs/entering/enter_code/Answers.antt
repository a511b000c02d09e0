use Rattle.std.proofs.Common.{◌∙◌, sym}
use Rattle.jvm_step.proofs.Entered.{no_call, too_deep, room_is}
use Rattle.jvm_step.proofs.entering.enter_code.Goals as goal

pub returns-then-not-has_next-clause-row : goal.returns-then-not-has_next-clause-row
returns-then-not-has_next-clause-row c =
    no_call c.args.p.now c.args.code c.args.instance c.args.world.now c.args.world.now c.args.frames.now (c.has_next.ensures.none c.if-not-has_next.true)

pub returns-then-not-has_room-clause-row : goal.returns-then-not-has_room-clause-row
returns-then-not-has_room-clause-row c =
    too_deep c.args.p.now c.args.code c.args.instance c.args.world.now c.take_call.new.self
    (c.has_next.ensures.some c.if-not-has_next.false) (sym c.fits.ensures ∙ c.if-not-fits.false)
    c.take_call.ensures.kept.limits c.take_call.ensures.takes
    c.throw.new.self c.in_ok-thrown.thrown c.of-turn.result c.args.frames.now c.requires.none
    (room_is c.args.frames.now _ _ _ c.requires.none c.has_room.ensures c.if-not-has_room.true)
    c.in_ok-thrown.ensures.throws c.of-turn.ensures.some c.of-turn.ensures.none
