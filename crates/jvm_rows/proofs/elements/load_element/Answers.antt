use Rattle.std.proofs.Common.{rules, subst, drop}
use Rattle.std.specs.Int.{w32}
use Rattle.std.proofs.lemmas.Int.{to_z-of_z}
use mir.Val.{SFits}
use Rattle.program_rules.specs.declared.fault.Fault.TheVariants.{NullPointerException}
use Rattle.jvm_state.specs.Tops.{TakesReference}
use Rattle.jvm_frames.specs.Frames.{stack_of}
use Rattle.jvm_rows.specs.Effects.{Runs}
use Rattle.jvm_rows.specs.Rows.{loading, throwing, taking_element}
use Rattle.jvm_rows.proofs.Ends.{along, no_row}
use Rattle.jvm_rows.proofs.Loading.{no_index, no_array_there, null_array, an_array}
use Rattle.jvm_rows.proofs.elements.load_element.Goals as goal

pub returns-in_default-clause-row : goal.returns-in_default-clause-row
returns-in_default-clause-row c =
    no_row c.args.p.now (taking_element c.args.element) c.args.frames.now c.args.world.now
    (no_index c.args.p.now c.args.frames.now c.args.world.now c.args.element c.in_default.ensures.none)

pub returns-in_default-reference_at-clause-row : goal.returns-in_default-reference_at-clause-row
returns-in_default-reference_at-clause-row c =
    no_row c.args.p.now (taking_element c.args.element) c.args.frames.now c.args.world.now
    (no_array_there c.args.p.now c.args.frames.now c.args.world.now c.args.element c.in-Some.index c.in-Some.ensures.some c.in_default-reference_at.ensures.none)

pub returns-in_ok-done-in-Some-reference-clause-row : goal.returns-in_ok-done-in-Some-reference-clause-row
returns-in_ok-done-in-Some-reference-clause-row c =
    let f : SFits w32 c.in-Some.index = search rules in
    let p = c.args.p.now in
    let w = c.args.world.now in
    let old = c.args.frames.now in
    let x = c.in-Some-reference.object in
    let there = subst (λ o. TakesReference (drop 1 (stack_of old.frame)) o (drop 2 (stack_of old.frame))) c.in-Some-reference.is c.in-Some-reference_at.ensures.some in
    along p (taking_element c.args.element) (loading c.args.element c.in-Some.index x) c.in_ok-done-in-Some-reference.done old c.load_from.new.frames w c.load_from.new.world
    (an_array p old w c.args.element c.in-Some.index x c.in-Some.ensures.some there)
    (subst (λ i. Runs p (loading c.args.element i x) c.in_ok-done-in-Some-reference.done old c.load_from.new.frames w c.load_from.new.world)
    (to_z-of_z w32 c.in-Some.index f) c.in_ok-done-in-Some-reference.ensures.row)

pub returns-in_ok-thrown-in-None-clause-row : goal.returns-in_ok-thrown-in-None-clause-row
returns-in_ok-thrown-in-None-clause-row c =
    let p = c.args.p.now in
    let w = c.args.world.now in
    let old = c.args.frames.now in
    let there = subst (λ o. TakesReference (drop 1 (stack_of old.frame)) o (drop 2 (stack_of old.frame))) c.in-None.is c.in-Some-reference_at.ensures.some in
    along p (taking_element c.args.element) (throwing NullPointerException) c.in_ok-thrown-in-None.thrown old old w c.throw.new.world
    (null_array p old w c.args.element c.in-Some.index c.in-Some.ensures.some there)
    (c.in_ok-thrown-in-None.ensures.throws old)
