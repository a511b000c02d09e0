use Rattle.std.proofs.Common.{◌≡◌, ◌≤◌, map, drop, length}
use Rattle.std.specs.Option.{option_map}
use Rattle.program_rules.specs.Linked.{line_row}
use Rattle.class_link.specs.View.{line_of}
use Rattle.class_link.proofs.line_table.line_row.Given as goal

abbrev pub invariant-loop-left : goal.invariant-loop-left
invariant-loop-left l = (l.left ≤ length l.rows) × (option_map line_of l.found ≡ line_row l.at (map line_of (drop l.left l.rows)))

abbrev pub decreases-loop-left : goal.decreases-loop-left
decreases-loop-left l = l.left
