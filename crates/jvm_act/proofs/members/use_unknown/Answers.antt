use Rattle.class_link.specs.View.{field_ref_of}
use Rattle.jvm_members.specs.FieldRows.{instance_row}
use Rattle.jvm_act.specs.declared.groups.FieldUse.TheVariants as field
use Rattle.jvm_act.proofs.Fielded.{no_field, object_at}
use Rattle.jvm_act.proofs.Framed.{wholes_keep_frames}
use Rattle.jvm_act.proofs.members.use_unknown.Goals as goal

pub returns-in_ok-done-in-Some-clause-row : goal.returns-in_ok-done-in-Some-clause-row
returns-in_ok-done-in-Some-clause-row c =
    object_at c.args.p.now c.args.class.0 c.args.index c.args.access c.in-Some.field.now c.in_ok-done-in-Some.done c.turn_of-turn.result c.args.frames.now c.access_field.new.frames c.args.world.now c.access_field.new.world
    c.turn_of-turn.ensures c.in-Some.ensures.some c.in_ok-done-in-Some.ensures.row

pub returns-in_ok-done-in-Some-clause-frames : goal.returns-in_ok-done-in-Some-clause-frames
returns-in_ok-done-in-Some-clause-frames c =
    let p = c.args.p.now in
    wholes_keep_frames p (instance_row p c.args.access (field_ref_of c.in-Some.field.now)) c.in_ok-done-in-Some.done c.args.frames.now c.access_field.new.frames c.args.world.now c.access_field.new.world
    c.requires.runs c.in_ok-done-in-Some.ensures.row c.requires.frames

pub returns-in-None-clause-row : goal.returns-in-None-clause-row
returns-in-None-clause-row c =
    no_field c.args.p.now c.args.class.0 c.args.index (field.Object c.args.access) c.args.frames.now c.args.world.now c.in-None.ensures.none
