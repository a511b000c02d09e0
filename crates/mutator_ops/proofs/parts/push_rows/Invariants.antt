use Rattle.std.proofs.Common.{◌≡◌, ◌++◌, map, take}
use Rattle.class_link.specs.View.{line_of}
use Rattle.class_link.specs.Linking.{line_in}
use Rattle.mutator_ops.proofs.parts.push_rows.Given as goal

abbrev pub invariant-loop-start : goal.invariant-loop-start
invariant-loop-start l = map line_of l.lines ≡ map line_of l.initial.lines ++ map line_in (take l.start-index l.rows)
