use Rattle.std.proofs.Common.{◌≡◌, take}
use Rattle.std.specs.List.{flat_map}
use Rattle.lib_table.specs.Rows.{entries_of}
use Rattle.lib_table.proofs.building.pool.Given as goal

abbrev pub invariant-loop-row : goal.invariant-loop-row
invariant-loop-row l = l.pool.items ≡ flat_map entries_of (take l.row-index l.rows)
