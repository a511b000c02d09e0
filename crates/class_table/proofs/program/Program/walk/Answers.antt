use Rattle.std.proofs.Common.{◌∙◌, sym, ap, subst}
use Rattle.std.proofs.lemmas.Result.{on_ok_weaker}
use Rattle.program_rules.specs.Programs.{consult_in}
use Rattle.class_table.specs.Table.{look}
use Rattle.class_table.specs.Walked.{wanted, AreTasks}
use Rattle.class_table.proofs.Visiting.{one_visit}
use Rattle.class_table.proofs.program.Program.walk.Goals as goal

pub run-requires-clause-tasks : goal.run-requires-clause-tasks
run-requires-clause-tasks c = subst (AreTasks c.args.self.now c.args.seen.now.names) (sym c.in_ok-tasks.ensures) (one_visit c.args.self.now c.args.id.0 c.args.seen.now.names c.requires.class)

pub returns-clause-names : goal.returns-clause-names
returns-clause-names c =
    let p = c.args.self.now in
    let same = ap (λ l. consult_in (look p) (wanted p l) c.args.seen.now.names) c.in_ok-tasks.ensures in
    on_ok_weaker c.run.result (λ told. told ∙ same) c.run.ensures.names
