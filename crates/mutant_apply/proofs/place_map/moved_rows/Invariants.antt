use Rattle.std.proofs.Common.{◌≡◌, ◌++◌, drop, map}
use Rattle.mutant_apply.specs.Moved.{moved_place, moved_row}
use Rattle.mutant_apply.proofs.place_map.moved_rows.Given as goal

abbrev pub invariant-loop-row : goal.invariant-loop-row
invariant-loop-row l = l.moved ++ map (moved_row (moved_place l.by.at l.by.more)) (drop l.row-index l.row-items) ≡ map (moved_row (moved_place l.by.at l.by.more)) l.row-items
