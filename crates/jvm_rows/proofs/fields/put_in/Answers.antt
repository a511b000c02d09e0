use Rattle.std.proofs.Common.{subst, sym, false, true}
use Rattle.jvm_world.specs.View.{SetsSlot}
use Rattle.jvm_rows.specs.declared.effect.Effect.TheVariants as effect
use Rattle.jvm_rows.specs.Effects.{Runs}
use Rattle.jvm_rows.specs.Rows.{storing_in, TellsInstance}
use Rattle.jvm_rows.proofs.Ends.{no_row}
use Rattle.jvm_rows.proofs.Fielding.{put_nowhere, put_outside, put_there}
use Rattle.jvm_rows.proofs.fields.put_in.Goals as goal

pub returns-then-not-is_instance-clause-row : goal.returns-then-not-is_instance-clause-row
returns-then-not-is_instance-clause-row c =
    no_row c.args.p.now (storing_in c.args.slot c.args.value c.args.object) c.args.frames.now c.args.world.now
    (put_nowhere c.args.p.now c.args.frames.now c.args.world.now c.args.slot c.args.object c.args.value
    (subst (TellsInstance c.args.p.now c.args.world.now c.args.object) c.if-not-is_instance.true c.is_instance.ensures))

pub returns-then-not-set_slot-clause-row : goal.returns-then-not-set_slot-clause-row
returns-then-not-set_slot-clause-row c =
    let p = c.args.p.now in
    let w = c.args.world.now in
    let old = c.args.frames.now in
    let row = storing_in c.args.slot c.args.value c.args.object in
    subst (λ u. Runs p row effect.NoRow old old w u) (sym (c.set_slot.ensures.absent c.if-not-set_slot.true))
    (no_row p row old w (put_outside p old w c.set_slot.new.self c.args.slot c.args.object c.args.value
    (subst (SetsSlot p w c.set_slot.new.self c.args.object c.args.slot c.args.value) c.if-not-set_slot.true c.set_slot.ensures.sets)))

pub returns-clause-row : goal.returns-clause-row
returns-clause-row c =
    let p = c.args.p.now in
    let w = c.args.world.now in
    let old = c.args.frames.now in
    put_there p old c.advance.new.self w c.set_slot.new.self c.args.slot c.args.object c.args.value
    (subst (TellsInstance p w c.args.object) c.if-not-is_instance.false c.is_instance.ensures)
    (subst (SetsSlot p w c.set_slot.new.self c.args.object c.args.slot c.args.value) c.if-not-set_slot.false c.set_slot.ensures.sets)
    c.advance.ensures
