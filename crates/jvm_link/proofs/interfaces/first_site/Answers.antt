use Rattle.jvm_link.proofs.Choosing.{first_given, first_here}
use Rattle.jvm_link.proofs.interfaces.first_site.Goals as goal

pub returns-in_default : goal.returns-in_default
returns-in_default c = absurd (first_given c.args.program.now c.args.name.now c.args.desc.now c.args.found.now c.class_at.result c.requires.given c.class_at.ensures c.in_default.ensures.none)

pub returns : goal.returns
returns c = first_here c.args.program.now c.args.name.now c.args.desc.now c.args.found.now _ c.class_at.ensures (c.requires.within 0 c.class_at.result c.class_at.ensures) c.in-Some.ensures.some
