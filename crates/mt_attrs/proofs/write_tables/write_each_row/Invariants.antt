use Rattle.std.proofs.Common.{◌≡◌, ◌++◌, take}
use Rattle.std.specs.List.{flat_map}
use Rattle.mt_attrs.specs.Rows.{row_bytes}
use Rattle.mt_attrs.proofs.write_tables.write_each_row.Given as goal

abbrev pub invariant-loop-row : goal.invariant-loop-row
invariant-loop-row l = l.out ≡ l.fn.out ++ flat_map (row_bytes l.starts l.end) (take l.row-index l.rows)
