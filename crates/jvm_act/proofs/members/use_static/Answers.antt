use Rattle.jvm_act.specs.declared.groups.FieldUse.TheVariants as field
use Rattle.jvm_act.proofs.Fielded.{no_field, static_at}
use Rattle.jvm_act.proofs.Framed.{fields_keep_frames}
use Rattle.jvm_act.proofs.members.use_static.Goals as goal

pub returns-in_ok-turn-in-Some-clause-row : goal.returns-in_ok-turn-in-Some-clause-row
returns-in_ok-turn-in-Some-clause-row c =
    static_at c.args.p.now c.args.class.0 c.args.index c.args.access c.in-Some.field.now c.in_ok-turn-in-Some.turn c.args.frames.now c.access_static.new.frames c.args.world.now c.access_static.new.world
    c.in-Some.ensures.some c.in_ok-turn-in-Some.ensures.row

pub returns-in_ok-turn-in-Some-clause-frames : goal.returns-in_ok-turn-in-Some-clause-frames
returns-in_ok-turn-in-Some-clause-frames c =
    fields_keep_frames c.args.p.now c.args.frames.now c.access_static.new.frames c.requires.runs c.in_ok-turn-in-Some.ensures.frames c.requires.frames

pub returns-in-None-clause-row : goal.returns-in-None-clause-row
returns-in-None-clause-row c =
    no_field c.args.p.now c.args.class.0 c.args.index (field.Static c.args.access) c.args.frames.now c.args.world.now c.in-None.ensures.none
