use Rattle.std.proofs.Common.{◌≡◌, ◌++◌, map, take}
use Rattle.test_select.specs.Cells.{cell}
use Rattle.test_select.proofs.selection.push_cells.Given as goal

abbrev pub invariant-loop-test : goal.invariant-loop-test
invariant-loop-test l = l.all.items ≡ l.fn.all.items ++ map (cell l.mutant) (take l.test-index l.tests)
