use Rattle.std.proofs.Common.{◌≡◌, ◌++◌, take, map}
use Rattle.lib_table.specs.Rows.{const_of}
use Rattle.lib_table.proofs.building.add_entries.Given as goal

abbrev pub invariant-loop-row : goal.invariant-loop-row
invariant-loop-row l = l.pool.items ≡ l.initial.pool.items ++ map const_of (take l.row-index l.rows)
