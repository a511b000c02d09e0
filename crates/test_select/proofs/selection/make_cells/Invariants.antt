use Rattle.std.proofs.Common.{◌≡◌, ◌++◌}
use Rattle.test_select.specs.Cells.{cells}
use Rattle.test_select.proofs.Making.{cells_behind}
use Rattle.test_select.proofs.selection.make_cells.Given as goal

abbrev pub invariant-loop-i : goal.invariant-loop-i
invariant-loop-i l = l.all.items ++ cells_behind l.cover l.mutants l.viable l.i ≡ cells l.mutants l.viable l.cover
