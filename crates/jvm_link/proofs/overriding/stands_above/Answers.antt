use Rattle.jvm_link.proofs.Reaching.{above_other}
use Rattle.jvm_link.proofs.overriding.stands_above.Goals as goal

pub returns : goal.returns
returns c = above_other c.args.program.now c.args.class.0 c.args.over.0 c.is_subtype.result c.len-len.ensures.form c.requires.class c.requires.over c.if-class-over.false c.is_subtype.ensures
