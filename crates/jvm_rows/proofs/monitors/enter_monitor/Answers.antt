use Rattle.std.proofs.Common.{subst, drop}
use Rattle.program_rules.specs.declared.fault.Fault.TheVariants.{NullPointerException}
use Rattle.jvm_state.specs.Tops.{TakesReference}
use Rattle.jvm_frames.specs.Frames.{stack_of}
use Rattle.jvm_rows.specs.declared.effect.Effect.TheVariants as effect
use Rattle.jvm_rows.specs.Rows.{entering, throwing}
use Rattle.jvm_rows.proofs.Ends.{along, no_row}
use Rattle.jvm_rows.proofs.Monitoring.{enters, with_object, no_reference, null_reference, an_object, entered}
use Rattle.jvm_rows.proofs.monitors.enter_monitor.Goals as goal

pub returns-in_default-clause-row : goal.returns-in_default-clause-row
returns-in_default-clause-row c =
    no_row c.args.p.now entering c.args.frames.now c.args.world.now
    (no_reference c.args.p.now c.args.frames.now c.args.world.now enters c.in_default.ensures.none)

pub returns-in_ok-enter_monitor-in-Some-reference-clause-row : goal.returns-in_ok-enter_monitor-in-Some-reference-clause-row
returns-in_ok-enter_monitor-in-Some-reference-clause-row c =
    let p = c.args.p.now in
    let w = c.args.world.now in
    let old = c.args.frames.now in
    let x = c.in-Some-reference.object in
    let there = subst (λ o. TakesReference (stack_of old.frame) o (drop 1 (stack_of old.frame))) c.in-Some-reference.is c.in-Some.ensures.some in
    along p entering (with_object enters x) effect.Goes old c.advance.new.self w c.enter_monitor.new.self
    (an_object p old w enters x there)
    (entered p old c.advance.new.self w c.enter_monitor.new.self x c.in_ok-enter_monitor-in-Some-reference.ensures.moves c.advance.ensures)

pub returns-in_ok-thrown-in-None-clause-row : goal.returns-in_ok-thrown-in-None-clause-row
returns-in_ok-thrown-in-None-clause-row c =
    let p = c.args.p.now in
    let w = c.args.world.now in
    let old = c.args.frames.now in
    let there = subst (λ o. TakesReference (stack_of old.frame) o (drop 1 (stack_of old.frame))) c.in-None.is c.in-Some.ensures.some in
    along p entering (throwing NullPointerException) c.in_ok-thrown-in-None.thrown old old w c.throw.new.world
    (null_reference p old w enters there) (c.in_ok-thrown-in-None.ensures.throws old)
