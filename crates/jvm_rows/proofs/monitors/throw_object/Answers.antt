use Rattle.std.proofs.Common.{subst, drop}
use Rattle.program_rules.specs.declared.fault.Fault.TheVariants.{NullPointerException}
use Rattle.jvm_state.specs.Tops.{TakesReference}
use Rattle.jvm_frames.specs.Frames.{stack_of}
use Rattle.jvm_rows.specs.declared.effect.Effect.TheVariants as effect
use Rattle.jvm_rows.specs.Rows.{throwing_object, throwing}
use Rattle.jvm_rows.proofs.Ends.{along, no_row}
use Rattle.jvm_rows.proofs.Monitoring.{throws_it, with_object, no_reference, null_reference, an_object, thrown_it}
use Rattle.jvm_rows.proofs.monitors.throw_object.Goals as goal

pub returns-in_default-clause-row : goal.returns-in_default-clause-row
returns-in_default-clause-row c =
    no_row c.args.p.now throwing_object c.args.frames.now c.args.world.now
    (no_reference c.args.p.now c.args.frames.now c.args.world.now throws_it c.in_default.ensures.none)

pub returns-in-Some-reference-clause-row : goal.returns-in-Some-reference-clause-row
returns-in-Some-reference-clause-row c =
    let p = c.args.p.now in
    let w = c.args.world.now in
    let old = c.args.frames.now in
    let x = c.in-Some-reference.object in
    let there = subst (λ o. TakesReference (stack_of old.frame) o (drop 1 (stack_of old.frame))) c.in-Some-reference.is c.in-Some.ensures.some in
    along p throwing_object (with_object throws_it x) (effect.Throws x) old old w w
    (an_object p old w throws_it x there) (thrown_it p old w x)

pub returns-in_ok-thrown-in-None-clause-row : goal.returns-in_ok-thrown-in-None-clause-row
returns-in_ok-thrown-in-None-clause-row c =
    let p = c.args.p.now in
    let w = c.args.world.now in
    let old = c.args.frames.now in
    let there = subst (λ o. TakesReference (stack_of old.frame) o (drop 1 (stack_of old.frame))) c.in-None.is c.in-Some.ensures.some in
    along p throwing_object (throwing NullPointerException) c.in_ok-thrown-in-None.thrown old old w c.throw.new.world
    (null_reference p old w throws_it there) (c.in_ok-thrown-in-None.ensures.throws old)
