use Rattle.jvm_run.specs.Below.{AreTablesOf}
use Rattle.machine_answers.proofs.runs.push_lines.Given as goal

abbrev pub invariant-loop-line : goal.invariant-loop-line
invariant-loop-line l = AreTablesOf l.program l.tables
