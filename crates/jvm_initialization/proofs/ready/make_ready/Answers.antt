use Rattle.std.proofs.Common.{refl, subst}
use Rattle.jvm_initialization.specs.Needs.{TellsNeed}
use Rattle.jvm_initialization.proofs.Readying.{ready_left, begins_turn, fails_turn}
use Rattle.jvm_initialization.proofs.ready.make_ready.Goals as goal

pub returns-in-Ready-clause-ready : goal.returns-in-Ready-clause-ready
returns-in-Ready-clause-ready c = λ go.
    let p = c.args.p.now in
    let w = c.args.world.now in
    let mid = c.consult.new.self in (
      ready_left p w.limits c.args.class.0 c.args.frames.now go w mid c.in_ok-consult.ensures.moves
          (subst (TellsNeed p mid c.args.class.0) c.in-Ready.is c.in_ok-need.ensures.need),
      refl,
    )

pub returns-in_ok-thrown-in-Begins-clause-ready : goal.returns-in_ok-thrown-in-Begins-clause-ready
returns-in_ok-thrown-in-Begins-clause-ready c = λ go.
    let p = c.args.p.now in
    let w = c.args.world.now in
    let mid = c.consult.new.self in
    begins_turn p w.limits c.args.class.0 c.args.frames.now go w mid c.in_ok-consult.ensures.moves
    c.in-Begins.first c.in_ok-thrown-in-Begins.thrown c.of-turn.result c.begin.new.frames c.begin.new.world c.in_ok-consult.ensures.kept.limits
    (subst (TellsNeed p mid c.args.class.0) c.in-Begins.is c.in_ok-need.ensures.need) c.in_ok-thrown-in-Begins.ensures.row c.of-turn.ensures.some c.of-turn.ensures.none

pub returns-in_ok-failed-in-Failing-clause-ready : goal.returns-in_ok-failed-in-Failing-clause-ready
returns-in_ok-failed-in-Failing-clause-ready c = λ go.
    let p = c.args.p.now in
    let w = c.args.world.now in
    let mid = c.consult.new.self in
    fails_turn p w.limits c.args.class.0 c.args.frames.now go w mid c.in_ok-consult.ensures.moves
    c.in_ok-failed-in-Failing.failed c.of-turn-in-Failing.result c.throw.new.self c.in_ok-consult.ensures.kept.limits
    (subst (TellsNeed p mid c.args.class.0) c.in-Failing.is c.in_ok-need.ensures.need) c.in_ok-failed-in-Failing.ensures.throws c.of-turn-in-Failing.ensures.some c.of-turn-in-Failing.ensures.none
