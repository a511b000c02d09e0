use Rattle.jvm_run.specs.Running.{HasRun, start_of}
use Rattle.jvm_step.specs.Tables.{AreTablesOf}
use Rattle.jvm_run.proofs.running.run_again.Given as goal

abbrev pub invariant-loop-i : goal.invariant-loop-i
invariant-loop-i l = record {
  run : HasRun l.p l.fn.m.world.limits l.steps l.i (start_of l.p l.test) l.m;
  tables : AreTablesOf l.p l.tables;
}
