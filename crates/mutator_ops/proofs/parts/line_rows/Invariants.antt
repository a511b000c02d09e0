use Rattle.std.proofs.Common.{◌≡◌, map, take}
use Rattle.class_link.specs.View.{line_of}
use Rattle.mutator_ops.specs.Mutants.{line_rows}
use Rattle.mutator_ops.proofs.parts.line_rows.Given as goal

abbrev pub invariant-loop-attr : goal.invariant-loop-attr
invariant-loop-attr l = map line_of l.lines ≡ line_rows (take l.attr-index l.attrs)
