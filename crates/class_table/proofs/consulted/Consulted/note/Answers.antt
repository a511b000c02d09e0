use Rattle.class_table.proofs.Outcomes.{on_ok_both}
use Rattle.class_table.proofs.Walk.{kept_one}
use Rattle.class_table.proofs.consulted.Consulted.note.Goals as goal

pub returns-clause-kept : goal.returns-clause-kept
returns-clause-kept c = on_ok_both c.add.result (kept_one c.args.program.now c.args.self.now c.add.new.self c.args.name.now c.requires) c.add.ensures.names c.add.ensures.marks
