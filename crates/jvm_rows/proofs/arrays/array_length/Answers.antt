use Rattle.std.proofs.Common.{subst, drop, Some, None}
use Rattle.program_rules.specs.declared.fault.Fault.TheVariants.{NullPointerException}
use Rattle.jvm_state.specs.Tops.{TakesReference}
use Rattle.jvm_frames.specs.Frames.{stack_of}
use Rattle.jvm_rows.specs.Rows.{throwing}
use Rattle.jvm_rows.proofs.Ends.{along, no_row}
use Rattle.jvm_rows.specs.Making.{length_row, length_of_row}
use Rattle.jvm_rows.proofs.Operands.{no_reference, a_reference}
use Rattle.jvm_rows.proofs.Making.{measuring}
use Rattle.jvm_rows.proofs.arrays.array_length.Goals as goal

pub returns-in_default-clause-row : goal.returns-in_default-clause-row
returns-in_default-clause-row c =
    no_row c.args.p.now length_row c.args.frames.now c.args.world.now
    (no_reference c.args.p.now c.args.frames.now c.args.world.now measuring c.in_default.ensures.none)

pub returns-in-Some-reference-clause-row : goal.returns-in-Some-reference-clause-row
returns-in-Some-reference-clause-row c =
    let p = c.args.p.now in
    let w = c.args.world.now in
    let old = c.args.frames.now in
    let x = c.in-Some-reference.object in
    let there = subst (λ o. TakesReference (stack_of old.frame) o (drop 1 (stack_of old.frame))) c.in-Some-reference.is c.in-Some.ensures.some in
    along p length_row (length_of_row x) c.push_length.result old c.push_length.new.frames w w
    (a_reference p old w measuring (Some x) there) c.push_length.ensures

pub returns-in_ok-thrown-in-None-clause-row : goal.returns-in_ok-thrown-in-None-clause-row
returns-in_ok-thrown-in-None-clause-row c =
    let p = c.args.p.now in
    let w = c.args.world.now in
    let old = c.args.frames.now in
    let there = subst (λ o. TakesReference (stack_of old.frame) o (drop 1 (stack_of old.frame))) c.in-None.is c.in-Some.ensures.some in
    along p length_row (throwing NullPointerException) c.in_ok-thrown-in-None.thrown old old w c.throw.new.world
    (a_reference p old w measuring None there) (c.in_ok-thrown-in-None.ensures.throws old)
