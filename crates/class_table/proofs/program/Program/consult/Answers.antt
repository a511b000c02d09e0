use Rattle.class_table.proofs.Visiting.{marked_is}
use Rattle.class_table.proofs.program.Program.consult.Goals as goal

pub returns-then-is_marked-clause-names : goal.returns-then-is_marked-clause-names
returns-then-is_marked-clause-names c = marked_is c.args.self.now c.args.id.0 c.args.seen.now c.requires.seen (c.is_marked.ensures.0 c.if-is_marked.true)
