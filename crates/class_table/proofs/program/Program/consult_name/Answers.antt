use Rattle.std.proofs.Common.{◌∙◌, ap}
use Rattle.std.proofs.lemmas.Result.{on_ok_weaker}
use Rattle.program_rules.specs.Programs.{consulted_with}
use Rattle.class_table.specs.Table.{look}
use Rattle.class_table.proofs.Visiting.{absent_is}
use Rattle.class_table.proofs.program.Program.consult_name.Goals as goal

pub returns-in_default-clause-names : goal.returns-in_default-clause-names
returns-in_default-clause-names c = on_ok_weaker c.note.result (λ told. told ∙ absent_is c.args.self.now c.len-len.ensures.form c.args.name.now c.args.seen.now.names c.in_default.ensures.nothing) c.note.ensures.names

pub returns-clause-names : goal.returns-clause-names
returns-clause-names c = on_ok_weaker c.consult.result (λ told. told ∙ ap (λ n. consulted_with (look c.args.self.now) n c.args.seen.now.names) c.in-Some.ensures.named) c.consult.ensures.names
