use Rattle.class_link.specs.Info.{class_of}
use Rattle.jvm_link.proofs.Members.{some_field, no_field}
use Rattle.jvm_link.proofs.declared.declared_field.Goals as goal

pub returns-clause-some : goal.returns-clause-some
returns-clause-some c = some_field c.args.program.now c.args.id.0 c.args.name.now c.args.desc.now (class_of c.info.result.now) c.place_in.result c.info.ensures.class c.place_in.ensures

pub returns-clause-none : goal.returns-clause-none
returns-clause-none c = no_field c.args.program.now c.args.id.0 c.args.name.now c.args.desc.now (class_of c.info.result.now) c.place_in.result c.info.ensures.class c.place_in.ensures
