use Rattle.std.proofs.Common.{◌≡◌, ◌++◌, drop}
use Rattle.job_rules.specs.Gathered.{flat}
use Rattle.suite_workers.specs.Cells.{mutants_from}
use Rattle.suite_workers.proofs.cell_list.cells_of.Given as goal

abbrev pub invariant-loop-mutant : goal.invariant-loop-mutant
invariant-loop-mutant l = (l.mutants.items ++ mutants_from l.mutant (drop l.mutant l.covering) ≡ mutants_from 0 l.covering)
    × (l.tests.items ++ flat (drop l.mutant l.covering) ≡ flat l.covering)
