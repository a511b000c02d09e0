use Rattle.std.proofs.Common.{Err, ap}
use Rattle.class_table.specs.Table.{look, names}
use Rattle.suite_program.proofs.CodeLaws.{none_refused}
use Rattle.suite_program.proofs.accepting.accept.Goals as goal

pub returns-in-Ok-clause-none : goal.returns-in-Ok-clause-none
returns-in-Ok-clause-none c = none_refused c.first_faults_are_found.ensures.none (look c.args.p.now) (names c.args.p.now) c.in-Ok.ensures.yes

pub code_end-requires : goal.code_end-requires
code_end-requires c f e = c.in-Err.ensures.no f (ap Err e)
