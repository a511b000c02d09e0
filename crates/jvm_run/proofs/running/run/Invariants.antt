use Rattle.std.proofs.Common.{◌≡◌, ◌+◌, ◌-◌, ◌≤◌}
use Rattle.jvm_step.specs.Below.{lines_of}
use Rattle.jvm_step.specs.Below.{AreMarkedRight}
use Rattle.jvm_run.specs.Running.{HasRun, start_of}
use Rattle.jvm_step.specs.Tables.{AreTablesOf}
use Rattle.jvm_run.proofs.running.run.Given as goal

abbrev pub invariant-loop-done : goal.invariant-loop-done
invariant-loop-done l = record {
  within : l.done ≤ l.limit;
  run : HasRun l.p l.fn.m.world.limits l.limit l.done (start_of l.p l.test) l.m;
  marked : AreMarkedRight l.p l.marks.items (lines_of l.p l.m.world);
  tables : AreTablesOf l.p l.tables;
  ticks : l.part ≡ l.fn.part + l.done;
}

abbrev pub decreases-loop-done : goal.decreases-loop-done
decreases-loop-done l = l.limit - l.done
