use Rattle.std.proofs.Common.{refl}
use Rattle.jvm_link.proofs.Found.{field_passed, field_here, field_nowhere}
use Rattle.jvm_link.proofs.fields.search_field.Goals as goal

pub declared_field-requires : goal.declared_field-requires
declared_field-requires c = c.requires c.loop-at.at c.class_at-number.result c.class_at-number.ensures

pub loop-at-preserved : goal.loop-at-preserved
loop-at-preserved c = field_passed c.args.program.now c.args.name.now c.args.desc.now c.args.classes.now c.loop-at.at _ c.class_at-number.result refl c.class_at-number.ensures c.in_default.ensures.none c.loop-at.invariant

pub returns-in-Some : goal.returns-in-Some
returns-in-Some c = field_here c.args.program.now c.args.name.now c.args.desc.now c.args.classes.now c.loop-at.at _ c.class_at-number.ensures (c.requires c.loop-at.at c.class_at-number.result c.class_at-number.ensures) c.in-Some.ensures.some c.loop-at.invariant

pub returns : goal.returns
returns c = field_nowhere c.args.program.now c.args.name.now c.args.desc.now c.args.classes.now c.loop-at.at c.loop-at-test.false c.loop-at.invariant
