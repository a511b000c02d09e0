use Rattle.std.proofs.Common.{◌≡◌, ◌++◌, map, take}
use Rattle.class_link.specs.View.{line_of}
use Rattle.class_link.specs.Linking.{line_in}
use Rattle.class_link.proofs.code_linking.add_rows.Given as goal

abbrev pub invariant-loop-start : goal.invariant-loop-start
invariant-loop-start l = map line_of l.lines.items ≡ map line_of l.initial.lines.items ++ map line_in (take l.start-index l.rows)
