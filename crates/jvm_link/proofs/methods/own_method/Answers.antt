use Rattle.jvm_link.proofs.Found.{own_none, own_here}
use Rattle.jvm_link.proofs.methods.own_method.Goals as goal

pub returns : goal.returns
returns c = own_here c.args.program.now c.args.name.now c.args.desc.now _ c.len-len.ensures.form c.requires c.in-Some.ensures.some

pub returns-in_default : goal.returns-in_default
returns-in_default c = own_none c.args.program.now c.args.name.now c.args.desc.now c.args.id.0 c.len-len.ensures.form c.in_default.ensures.none
