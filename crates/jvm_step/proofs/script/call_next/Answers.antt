use Rattle.std.proofs.Common.{sym}
use Rattle.jvm_step.proofs.Scripted.{no_script, no_class, found}
use Rattle.jvm_step.proofs.script.call_next.Goals as goal

pub returns-in_default-clause-row : goal.returns-in_default-clause-row
returns-in_default-clause-row c =
    no_script c.args.p.now c.args.world.now c.args.world.now c.args.frames.now c.in_default.ensures.none

pub returns-in_ok-turn-in-Some-id-clause-row : goal.returns-in_ok-turn-in-Some-id-clause-row
returns-in_ok-turn-in-Some-id-clause-row c =
    found c.args.p.now c.in-Some.next.now c.args.world.now c.requires.world (sym c.in-Some.ensures.next)
    c.consult.new.self c.in-Some-id.class.0 c.in_ok-own-in-Some-id.own c.in_ok-turn-in-Some-id.turn c.call_own.new.frames c.call_own.new.world
    c.in-Some-id.ensures.named c.in_ok-consult-in-Some-id.ensures.moves c.in_ok-consult-in-Some-id.ensures.kept.limits
    c.in_ok-own-in-Some-id.ensures c.in_ok-turn-in-Some-id.ensures.row

pub returns-in-None-clause-row : goal.returns-in-None-clause-row
returns-in-None-clause-row c =
    no_class c.args.p.now c.in-Some.next.now c.args.world.now c.requires.world (sym c.in-Some.ensures.next)
    c.args.world.now c.args.frames.now c.in-None.ensures.nothing
