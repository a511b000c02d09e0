use Rattle.std.proofs.Common.{◌≡◌, ◌++◌, replicate, take}
use Rattle.suite_workers.proofs.cell_list.push_cells.Given as goal

abbrev pub invariant-loop-test : goal.invariant-loop-test
invariant-loop-test l = (l.mutants.items ≡ l.initial.mutants.items ++ replicate l.test-index l.mutant)
    × (l.all.items ≡ l.initial.all.items ++ take l.test-index l.tests)
