use Rattle.std.proofs.Common.{rules, subst}
use Rattle.std.specs.Int.{w32}
use Rattle.std.proofs.lemmas.Int.{to_z-of_z}
use mir.Val.{SFits}
use Rattle.program_rules.specs.declared.value.Value.TheVariants.{Ref}
use Rattle.program_rules.specs.declared.fault.Fault.TheVariants.{ArrayIndexOutOfBoundsException}
use Rattle.class_table.specs.Table.{look}
use Rattle.jvm_rows.specs.Effects.{Runs}
use Rattle.jvm_rows.specs.Rows.{throwing}
use Rattle.jvm_rows.proofs.Ends.{along, no_row}
use Rattle.jvm_type_rows.specs.Storing.{FitsArray, storing_value, storing_known}
use Rattle.jvm_type_rows.proofs.Stores.{value_nowhere, value_outside, value_known, value_unknown}
use Rattle.jvm_type_rows.proofs.storing.store_object.Goals as goal

pub returns-in-NoRow-clause-row : goal.returns-in-NoRow-clause-row
returns-in-NoRow-clause-row c =
    let f : SFits w32 c.args.index = search rules in
    let p = c.args.p.now in
    let v = Ref c.args.object in
    no_row p (storing_value (look p) c.args.index c.args.array v) c.args.frames.now c.args.world.now
    (value_nowhere p c.args.frames.now c.args.world.now c.args.index c.args.array v (simp to_z-of_z at c.in-NoRow.ensures))

pub returns-in_ok-thrown-in-Outside-clause-row : goal.returns-in_ok-thrown-in-Outside-clause-row
returns-in_ok-thrown-in-Outside-clause-row c =
    let f : SFits w32 c.args.index = search rules in
    let p = c.args.p.now in
    let w = c.args.world.now in
    let old = c.args.frames.now in
    let v = Ref c.args.object in
    along p (storing_value (look p) c.args.index c.args.array v) (throwing ArrayIndexOutOfBoundsException) c.in_ok-thrown-in-Outside.thrown old old w c.throw.new.world
    (value_outside p old w c.args.index c.args.array v (simp to_z-of_z at c.in-Outside.ensures))
    (c.in_ok-thrown-in-Outside.ensures.throws old)

pub returns-in-None-clause-row : goal.returns-in-None-clause-row
returns-in-None-clause-row c =
    let f : SFits w32 c.args.index = search rules in
    let p = c.args.p.now in
    let w = c.args.world.now in
    let old = c.args.frames.now in
    let x = c.args.array in
    let y = c.args.object in
    no_row p (storing_value (look p) c.args.index x (Ref y)) old w
    (value_unknown p old w c.args.index x y c.in-Element.field-0 (simp to_z-of_z at c.in-Element.ensures)
    (subst (FitsArray p w x y) c.in-None.is c.in_ok-answer-in-Element.ensures))

pub returns-in_ok-done-in-Some-clause-row : goal.returns-in_ok-done-in-Some-clause-row
returns-in_ok-done-in-Some-clause-row c =
    let f : SFits w32 c.args.index = search rules in
    let p = c.args.p.now in
    let w = c.args.world.now in
    let old = c.args.frames.now in
    let i = c.args.index in
    let x = c.args.array in
    let y = c.args.object in
    let b = c.in-Some.fits in
    along p (storing_value (look p) i x (Ref y)) (storing_known i x y b) c.in_ok-done-in-Some.done old c.store_known.new.frames w c.store_known.new.world
    (value_known p old w i x y c.in-Element.field-0 b (simp to_z-of_z at c.in-Element.ensures)
    (subst (FitsArray p w x y) c.in-Some.is c.in_ok-answer-in-Element.ensures))
    (subst (λ j. Runs p (storing_known j x y b) c.in_ok-done-in-Some.done old c.store_known.new.frames w c.store_known.new.world) (to_z-of_z w32 i f) c.in_ok-done-in-Some.ensures.row)
