use Rattle.std.proofs.Common.{◌≡◌, ◌+◌, map, take}
use Rattle.class_table.specs.Table.{look}
use Rattle.jvm_run.specs.Below.{AreNamedOf}
use Rattle.mutant_runs.specs.Files.{IsKept}
use Rattle.mutant_runs.specs.Needed.{verdict_picked}
use Rattle.mutant_runs.specs.Programs.{files_of}
use Rattle.mutant_runs.specs.Promises.{covering_at, steps_for_all}
use Rattle.mutant_runs.specs.Runs.{timed}
use Rattle.mutant_runs.proofs.all.verdicts_with.Given as goal

abbrev pub invariant-loop-i : goal.invariant-loop-i
invariant-loop-i l = record {
  told : l.verdicts ≡ map (λ m. verdict_picked l.set.limits (files_of l.fn.program) (look l.fn.program) (timed l.set.tests.now l.set.steps.now) (covering_at l.fn.program l.set.cover.now m) m) (take l.i l.mutants);
  steps : l.part ≡ l.fn.part + steps_for_all l.set.limits l.fn.program l.set.tests.now l.set.steps.now l.set.cover.now (take l.i l.mutants);
  same : l.program ≡ l.fn.program;
  kept : IsKept l.fn.program l.kept;
  named : AreNamedOf l.fn.program l.tables;
}
