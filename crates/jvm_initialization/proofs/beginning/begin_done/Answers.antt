use Rattle.std.proofs.Common.{subst}
use Rattle.jvm_initialization.specs.Constants.{SetsOrEnds}
use Rattle.jvm_initialization.specs.Begins.{setting_at}
use Rattle.jvm_initialization.proofs.Beginnings.{full_done, set_done}
use Rattle.jvm_initialization.proofs.beginning.begin_done.Goals as goal

pub returns-then-not-set-clause-row : goal.returns-then-not-set-clause-row
returns-then-not-set-clause-row c =
    let p = c.args.p.now in
    let w = c.args.world.now in
    let a = c.args.class.0 in
    let u = c.set_constants.new.world in
    full_done p w.limits a c.args.frames.now w u c.requires.initializer
    (subst (SetsOrEnds p w u (setting_at p w.limits a)) c.if-not-set.true c.in_ok-set.ensures.sets)

pub returns-clause-row : goal.returns-clause-row
returns-clause-row c =
    let p = c.args.p.now in
    let w = c.args.world.now in
    let a = c.args.class.0 in
    let mid = c.set_constants.new.world in
    set_done p w.limits a c.args.frames.now w mid c.mark.new.self c.requires.initializer
    (subst (SetsOrEnds p w mid (setting_at p w.limits a)) c.if-not-set.false c.in_ok-set.ensures.sets) c.in_ok-mark.ensures.moves
