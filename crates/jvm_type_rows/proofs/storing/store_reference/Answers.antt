use Rattle.std.proofs.Common.{rules, subst, drop}
use Rattle.std.specs.Int.{w32}
use Rattle.std.proofs.lemmas.Int.{to_z-of_z}
use mir.Val.{SFits}
use Rattle.program_rules.specs.declared.fault.Fault.TheVariants.{NullPointerException}
use Rattle.program_rules.specs.declared.operation.Element.TheVariants.{ReferenceElement}
use Rattle.class_table.specs.Table.{look}
use Rattle.jvm_state.specs.Tops.{TakesReference}
use Rattle.jvm_frames.specs.Frames.{stack_of}
use Rattle.jvm_rows.specs.Effects.{Runs}
use Rattle.jvm_rows.specs.Rows.{throwing}
use Rattle.jvm_rows.specs.Storing.{storing_element}
use Rattle.jvm_rows.proofs.Ends.{along, no_row}
use Rattle.jvm_rows.proofs.Stored.{no_value_taken, no_place, no_target, null_target}
use Rattle.jvm_type_rows.specs.Storing.{reference_value, storing_value}
use Rattle.jvm_type_rows.proofs.Stores.{takes_value, no_value, a_place}
use Rattle.jvm_type_rows.proofs.storing.store_reference.Goals as goal

pub returns-in_default-clause-row : goal.returns-in_default-clause-row
returns-in_default-clause-row c =
    let p = c.args.p.now in
    let old = c.args.frames.now in
    no_row p (storing_element (look p) ReferenceElement) old c.args.world.now
    (no_value_taken p (look p) old c.args.world.now ReferenceElement (no_value (drop 0 (stack_of old.frame)) c.in_default.ensures.none))

pub returns-in_default-int_at-clause-row : goal.returns-in_default-int_at-clause-row
returns-in_default-int_at-clause-row c =
    let p = c.args.p.now in
    let old = c.args.frames.now in
    let s = stack_of old.frame in
    let o = c.in-Some.stored in
    no_row p (storing_element (look p) ReferenceElement) old c.args.world.now
    (no_place p (look p) old c.args.world.now ReferenceElement (reference_value o) (takes_value (drop 0 s) (drop 1 s) o c.in-Some.ensures.some) c.in_default-int_at.ensures.none)

pub returns-in_default-reference_at-clause-row : goal.returns-in_default-reference_at-clause-row
returns-in_default-reference_at-clause-row c =
    let p = c.args.p.now in
    let old = c.args.frames.now in
    let s = stack_of old.frame in
    let o = c.in-Some.stored in
    no_row p (storing_element (look p) ReferenceElement) old c.args.world.now
    (no_target p (look p) old c.args.world.now ReferenceElement (reference_value o) c.in-Some-int_at.index (takes_value (drop 0 s) (drop 1 s) o c.in-Some.ensures.some) c.in-Some-int_at.ensures.some c.in_default-reference_at.ensures.none)

pub returns-in_ok-done-in-Some-target-clause-row : goal.returns-in_ok-done-in-Some-target-clause-row
returns-in_ok-done-in-Some-target-clause-row c =
    let f : SFits w32 c.in-Some-int_at.index = search rules in
    let p = c.args.p.now in
    let w = c.args.world.now in
    let old = c.args.frames.now in
    let s = stack_of old.frame in
    let o = c.in-Some.stored in
    let i = c.in-Some-int_at.index in
    let x = c.in-Some-target.array in
    let there = subst (λ t. TakesReference (drop 2 s) t (drop 3 s)) c.in-Some-target.is c.in-Some-reference_at.ensures.some in
    along p (storing_element (look p) ReferenceElement) (storing_value (look p) i x (reference_value o)) c.in_ok-done-in-Some-target.done old c.store_at.new.frames w c.store_at.new.world
    (a_place p old w (reference_value o) i x (takes_value (drop 0 s) (drop 1 s) o c.in-Some.ensures.some) c.in-Some-int_at.ensures.some there)
    (subst (λ j. Runs p (storing_value (look p) j x (reference_value o)) c.in_ok-done-in-Some-target.done old c.store_at.new.frames w c.store_at.new.world) (to_z-of_z w32 i f) c.in_ok-done-in-Some-target.ensures.row)

pub returns-in_ok-thrown-in-None-clause-row : goal.returns-in_ok-thrown-in-None-clause-row
returns-in_ok-thrown-in-None-clause-row c =
    let p = c.args.p.now in
    let w = c.args.world.now in
    let old = c.args.frames.now in
    let s = stack_of old.frame in
    let o = c.in-Some.stored in
    let there = subst (λ t. TakesReference (drop 2 s) t (drop 3 s)) c.in-None.is c.in-Some-reference_at.ensures.some in
    along p (storing_element (look p) ReferenceElement) (throwing NullPointerException) c.in_ok-thrown-in-None.thrown old old w c.throw.new.world
    (null_target p (look p) old w ReferenceElement (reference_value o) c.in-Some-int_at.index (takes_value (drop 0 s) (drop 1 s) o c.in-Some.ensures.some) c.in-Some-int_at.ensures.some there)
    (c.in_ok-thrown-in-None.ensures.throws old)
