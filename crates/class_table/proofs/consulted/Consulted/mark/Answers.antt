use Rattle.class_table.proofs.Walk.{kept_marked}
use Rattle.class_table.proofs.consulted.Consulted.mark.Goals as goal

pub returns-clause-kept : goal.returns-clause-kept
returns-clause-kept c = kept_marked c.args.program.now c.args.self.now c.set_mark.new.self c.args.id.0 c.requires.seen c.set_mark.ensures.names c.set_mark.ensures.marks c.requires.walked
