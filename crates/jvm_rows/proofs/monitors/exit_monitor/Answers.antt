use Rattle.std.proofs.Common.{subst, drop, true, false}
use Rattle.program_rules.specs.declared.fault.Fault.TheVariants.{NullPointerException, IllegalMonitorStateException}
use Rattle.jvm_state.specs.Tops.{TakesReference}
use Rattle.jvm_frames.specs.Frames.{stack_of}
use Rattle.jvm_world.specs.View.{Exits}
use Rattle.jvm_rows.specs.declared.effect.Effect.TheVariants as effect
use Rattle.jvm_rows.specs.Effects.{Runs}
use Rattle.jvm_rows.specs.Rows.{exiting, throwing}
use Rattle.jvm_rows.proofs.Ends.{along, no_row}
use Rattle.jvm_rows.proofs.Monitoring.{exits_object, exit_some, exit_none, exit_null, not_open, closed}
use Rattle.jvm_rows.proofs.monitors.exit_monitor.Goals as goal

pub returns-in_default-clause-row : goal.returns-in_default-clause-row
returns-in_default-clause-row c =
    no_row c.args.p.now exiting c.args.frames.now c.args.world.now
    (exit_none c.args.p.now c.args.frames.now c.args.world.now c.in_default.ensures.none)

pub returns-then-not-exit_monitor-clause-row : goal.returns-then-not-exit_monitor-clause-row
returns-then-not-exit_monitor-clause-row c =
    let p = c.args.p.now in
    let w = c.args.world.now in
    let old = c.args.frames.now in
    let x = c.in-Some-reference.object in
    let there = subst (λ o. TakesReference (stack_of old.frame) o (drop 1 (stack_of old.frame))) c.in-Some-reference.is c.in-Some.ensures.some in
    let none = subst (Exits p x w c.exit_monitor.new.self) c.if-not-exit_monitor.true c.exit_monitor.ensures.exits in
    let thrown = subst (λ v. Runs p (throwing IllegalMonitorStateException) c.in_ok-illegal-in-Some-reference.illegal old old v c.throw.new.world) (c.exit_monitor.ensures.same c.if-not-exit_monitor.true) (c.in_ok-illegal-in-Some-reference.ensures.throws old) in
    along p exiting (exits_object x) c.in_ok-illegal-in-Some-reference.illegal old old w c.throw.new.world
    (exit_some p old w x there)
    (along p (exits_object x) (throwing IllegalMonitorStateException) c.in_ok-illegal-in-Some-reference.illegal old old w c.throw.new.world
    (not_open p old w c.exit_monitor.new.self x none) thrown)

pub returns-else-not-exit_monitor-clause-row : goal.returns-else-not-exit_monitor-clause-row
returns-else-not-exit_monitor-clause-row c =
    let p = c.args.p.now in
    let w = c.args.world.now in
    let old = c.args.frames.now in
    let x = c.in-Some-reference.object in
    let there = subst (λ o. TakesReference (stack_of old.frame) o (drop 1 (stack_of old.frame))) c.in-Some-reference.is c.in-Some.ensures.some in
    let some = subst (Exits p x w c.exit_monitor.new.self) c.if-not-exit_monitor.false c.exit_monitor.ensures.exits in
    along p exiting (exits_object x) effect.Goes old c.advance.new.self w c.exit_monitor.new.self
    (exit_some p old w x there)
    (closed p old c.advance.new.self w c.exit_monitor.new.self x some c.advance.ensures)

pub returns-in_ok-thrown-in-None-clause-row : goal.returns-in_ok-thrown-in-None-clause-row
returns-in_ok-thrown-in-None-clause-row c =
    let p = c.args.p.now in
    let w = c.args.world.now in
    let old = c.args.frames.now in
    let there = subst (λ o. TakesReference (stack_of old.frame) o (drop 1 (stack_of old.frame))) c.in-None.is c.in-Some.ensures.some in
    along p exiting (throwing NullPointerException) c.in_ok-thrown-in-None.thrown old old w c.throw-in-None.new.world
    (exit_null p old w there) (c.in_ok-thrown-in-None.ensures.throws old)
