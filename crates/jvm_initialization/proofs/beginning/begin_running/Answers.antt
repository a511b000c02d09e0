use Rattle.std.proofs.Common.{◌∙◌, sym, refl, subst}
use Rattle.jvm_initialization.specs.Constants.{SetsOrEnds}
use Rattle.jvm_initialization.specs.Begins.{setting_at}
use Rattle.jvm_initialization.proofs.Beginnings.{too_deep, full_running, set_running, begun_on}
use Rattle.jvm_initialization.proofs.beginning.begin_running.Goals as goal

pub returns-then-not-has_room-clause-row : goal.returns-then-not-has_room-clause-row
returns-then-not-has_room-clause-row c =
    let w = c.args.world.now in
    too_deep c.args.p.now w.limits c.args.class.0 c.args.frames.now c.args.i c.requires.initializer w c.throw.new.self c.in_ok-thrown.thrown
    (sym c.has_room.ensures ∙ c.if-not-has_room.true) refl c.in_ok-thrown.ensures.throws

pub returns-then-not-set-clause-row : goal.returns-then-not-set-clause-row
returns-then-not-set-clause-row c =
    let p = c.args.p.now in
    let w = c.args.world.now in
    let a = c.args.class.0 in
    let u = c.set_constants.new.world in
    full_running p w.limits a c.args.frames.now c.args.i c.requires.initializer w u
    (sym c.has_room.ensures ∙ c.if-not-has_room.false)
    (subst (SetsOrEnds p w u (setting_at p w.limits a)) c.if-not-set.true c.in_ok-set.ensures.sets)

pub returns-clause-row : goal.returns-clause-row
returns-clause-row c =
    let p = c.args.p.now in
    let w = c.args.world.now in
    let a = c.args.class.0 in
    let mid = c.set_constants.new.world in
    set_running p w.limits a c.args.frames.now c.args.i c.requires.initializer w mid c.mark.new.self c.enter.new.frames c.requires.whole
    (sym c.has_room.ensures ∙ c.if-not-has_room.false)
    (subst (SetsOrEnds p w mid (setting_at p w.limits a)) c.if-not-set.false c.in_ok-set.ensures.sets)
    c.in_ok-mark.ensures.moves c.in_ok-enter.ensures

pub returns-clause-frames : goal.returns-clause-frames
returns-clause-frames c =
    begun_on c.args.p.now c.args.class.0 c.args.i c.args.frames.now c.enter.new.frames c.requires.class c.requires.initializer c.in_ok-enter.ensures
