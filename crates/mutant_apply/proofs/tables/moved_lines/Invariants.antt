use Rattle.std.proofs.Common.{◌≡◌, ◌++◌, drop, map}
use Rattle.mutant_apply.specs.Moved.{moved_place, moved_line}
use Rattle.mutant_apply.proofs.tables.moved_lines.Given as goal

abbrev pub invariant-loop-start : goal.invariant-loop-start
invariant-loop-start l = l.moved ++ map (moved_line (moved_place l.by.at l.by.more)) (drop l.start-index l.start-items) ≡ map (moved_line (moved_place l.by.at l.by.more)) l.start-items
