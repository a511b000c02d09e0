use Rattle.std.proofs.Common.{◌≡◌, All, map, take}
use Rattle.class_link.specs.View.{row_of}
use Rattle.jvm_unwind.specs.Rows.{catch_row_of, IsCatchRow}
use Rattle.jvm_unwind.proofs.row.catch_rows.Given as goal

abbrev pub invariant-loop-row : goal.invariant-loop-row
invariant-loop-row l =
    (map (catch_row_of l.program) l.found.items ≡ map row_of (take l.row-index l.rows))
    × All (IsCatchRow l.program) l.found.items
