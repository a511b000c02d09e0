use Rattle.std.proofs.Common.{◌≡◌, take, map}
use Rattle.lib_table.specs.Rows.{frame_of}
use Rattle.lib_table.proofs.building.frames.Given as goal

abbrev pub invariant-loop-row : goal.invariant-loop-row
invariant-loop-row l = l.frames.items ≡ map frame_of (take l.row-index l.rows)
