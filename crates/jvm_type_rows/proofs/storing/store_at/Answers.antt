use Rattle.std.proofs.Common.{rules, subst, sym}
use Rattle.std.specs.Int.{w32}
use Rattle.std.proofs.lemmas.Int.{to_z-of_z}
use mir.Val.{SFits}
use Rattle.program_rules.specs.declared.value.Value.TheVariants.{Ref, Null}
use Rattle.program_rules.specs.declared.operation.Element.TheVariants.{ReferenceElement}
use Rattle.class_table.specs.Table.{look}
use Rattle.jvm_rows.specs.Effects.{Runs}
use Rattle.jvm_rows.specs.Storing.{storing_at}
use Rattle.jvm_type_rows.specs.Storing.{reference_value, storing_value}
use Rattle.jvm_type_rows.proofs.storing.store_at.Goals as goal

pub returns-in_ok-done-in-Some-clause-row : goal.returns-in_ok-done-in-Some-clause-row
returns-in_ok-done-in-Some-clause-row c =
    let f : SFits w32 c.args.index = search rules in
    let p = c.args.p.now in
    let w = c.args.world.now in
    let old = c.args.frames.now in
    let x = c.args.array in
    subst (λ o. Runs p (storing_value (look p) c.args.index x (reference_value o)) c.in_ok-done-in-Some.done old c.store_object.new.frames w c.store_object.new.world) (sym c.in-Some.is)
    (subst (λ j. Runs p (storing_value (look p) j x (Ref c.in-Some.object)) c.in_ok-done-in-Some.done old c.store_object.new.frames w c.store_object.new.world) (to_z-of_z w32 c.args.index f) c.in_ok-done-in-Some.ensures.row)

pub returns-in_ok-done-in-None-clause-row : goal.returns-in_ok-done-in-None-clause-row
returns-in_ok-done-in-None-clause-row c =
    let f : SFits w32 c.args.index = search rules in
    let p = c.args.p.now in
    let w = c.args.world.now in
    let old = c.args.frames.now in
    let x = c.args.array in
    subst (λ o. Runs p (storing_value (look p) c.args.index x (reference_value o)) c.in_ok-done-in-None.done old c.store_in.new.frames w c.store_in.new.world) (sym c.in-None.is)
    (subst (λ j. Runs p (storing_at ReferenceElement j x Null) c.in_ok-done-in-None.done old c.store_in.new.frames w c.store_in.new.world) (to_z-of_z w32 c.args.index f) c.in_ok-done-in-None.ensures.row)
