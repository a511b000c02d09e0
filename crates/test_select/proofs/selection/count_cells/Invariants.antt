use Rattle.std.proofs.Common.{◌≡◌, ◌+◌, ◌<◌, ◌^◌, length}
use Rattle.std.specs.Io.Iter.{u64_saturate}
use Rattle.test_select.specs.Cells.{cells}
use Rattle.test_select.proofs.Making.{cells_behind}
use Rattle.test_select.proofs.selection.count_cells.Given as goal

abbrev pub invariant-loop-i : goal.invariant-loop-i
invariant-loop-i l = record {
  told : u64_saturate (l.count + length (cells_behind l.cover l.mutants l.viable l.i)) ≡ u64_saturate (length (cells l.mutants l.viable l.cover));
  fits : l.count < 2 ^ 64;
}
