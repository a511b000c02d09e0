use Rattle.std.proofs.Common.{rules}
use Rattle.std.specs.Int.{w32}
use Rattle.std.proofs.lemmas.Int.{to_z-of_z}
use mir.Val.{SFits}
use Rattle.std.proofs.Common.{subst, sym, true, false}
use Rattle.program_rules.specs.declared.fault.Fault.TheVariants.{ArrayIndexOutOfBoundsException}
use Rattle.jvm_world.specs.View.{SetsSlot}
use Rattle.jvm_rows.specs.declared.effect.Effect.TheVariants as effect
use Rattle.jvm_rows.specs.Effects.{Runs}
use Rattle.jvm_rows.specs.Rows.{throwing}
use Rattle.jvm_rows.specs.Storing.{storing_at}
use Rattle.jvm_rows.proofs.Ends.{along, no_row}
use Rattle.jvm_rows.proofs.Stored.{stored_nowhere, stored_outside, never_absent, stored}
use Rattle.jvm_rows.proofs.storing.store_in.Goals as goal

pub returns-in-NoRow-clause-row : goal.returns-in-NoRow-clause-row
returns-in-NoRow-clause-row c =
    let f : SFits w32 c.args.index = search rules in
    no_row c.args.p.now (storing_at c.args.element c.args.index c.args.object c.args.value) c.args.frames.now c.args.world.now
    (stored_nowhere c.args.p.now c.args.frames.now c.args.world.now c.args.element c.args.index c.args.object c.args.value (simp to_z-of_z at c.in-NoRow.ensures))

pub returns-in_ok-thrown-in-Outside-clause-row : goal.returns-in_ok-thrown-in-Outside-clause-row
returns-in_ok-thrown-in-Outside-clause-row c =
    let f : SFits w32 c.args.index = search rules in
    let p = c.args.p.now in
    let w = c.args.world.now in
    let old = c.args.frames.now in
    along p (storing_at c.args.element c.args.index c.args.object c.args.value) (throwing ArrayIndexOutOfBoundsException) c.in_ok-thrown-in-Outside.thrown old old w c.throw.new.world
    (stored_outside p old w c.args.element c.args.index c.args.object c.args.value (simp to_z-of_z at c.in-Outside.ensures))
    (c.in_ok-thrown-in-Outside.ensures.throws old)

pub returns-else-set_slot-clause-row : goal.returns-else-set_slot-clause-row
returns-else-set_slot-clause-row c =
    let f : SFits w32 c.args.index = search rules in
    let p = c.args.p.now in
    let w = c.args.world.now in
    let u = c.set_slot.new.self in
    let old = c.args.frames.now in
    let row = storing_at c.args.element c.args.index c.args.object c.args.value in
    let narrowed = c.narrow_in-narrowed.result in
    let set = subst (SetsSlot p w u c.args.object c.unsigned_abs-place.result narrowed) c.if-set_slot.false c.set_slot.ensures.sets in
    subst (λ v. Runs p row effect.NoRow old old w v) (sym (c.set_slot.ensures.absent c.if-set_slot.false))
    (no_row p row old w
    (never_absent p old w u c.args.element c.args.index c.args.object c.args.value narrowed c.in-Element.field-0 (simp to_z-of_z at c.in-Element.ensures)
    (subst (λ n. SetsSlot p w u c.args.object n narrowed false) (simp to_z-of_z at c.unsigned_abs-place.ensures.value) set)))

pub returns-then-set_slot-clause-row : goal.returns-then-set_slot-clause-row
returns-then-set_slot-clause-row c =
    let f : SFits w32 c.args.index = search rules in
    let p = c.args.p.now in
    let w = c.args.world.now in
    let u = c.set_slot.new.self in
    let old = c.args.frames.now in
    let narrowed = c.narrow_in-narrowed.result in
    let set = subst (SetsSlot p w u c.args.object c.unsigned_abs-place.result narrowed) c.if-set_slot.true c.set_slot.ensures.sets in
    stored p old c.advance.new.self w u c.args.element c.args.index c.args.object c.args.value narrowed c.in-Element.field-0 (simp to_z-of_z at c.in-Element.ensures) c.narrow_in-narrowed.ensures
    (subst (λ n. SetsSlot p w u c.args.object n narrowed true) (simp to_z-of_z at c.unsigned_abs-place.ensures.value) set) c.advance.ensures
