use Rattle.std.proofs.Common.{drop}
use Rattle.jvm_run.specs.Below.{AreTablesOf}
use Rattle.mutant_runs.specs.Promises.{runs_in}
use Rattle.mutant_runs.proofs.VerdictLaws.{SoFar}
use Rattle.mutant_runs.proofs.tests_run.run_tests.Given as goal

abbrev pub invariant-loop-number : goal.invariant-loop-number
invariant-loop-number l = record {
  runs : SoFar (runs_in l.limits l.program l.tests l.steps l.covering) (runs_in l.limits l.program l.tests l.steps (drop l.number-index l.covering)) l.part l.fn.part;
  tables : AreTablesOf l.program l.tables;
}
