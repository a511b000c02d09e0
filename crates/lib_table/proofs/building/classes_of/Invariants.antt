use Rattle.std.proofs.Common.{◌≡◌, take, map}
use Rattle.lib_table.specs.Rows.{class_of}
use Rattle.lib_table.proofs.building.classes_of.Given as goal

abbrev pub invariant-loop-row : goal.invariant-loop-row
invariant-loop-row l = l.classes.items ≡ map class_of (take l.row-index l.rows)
