use Rattle.std.proofs.Common.{◌≡◌, map, take}
use Rattle.class_link.specs.View.{row_of}
use Rattle.class_link.specs.Linking.{row_in}
use Rattle.class_link.proofs.code_linking.link_rows.Given as goal

abbrev pub invariant-loop-row : goal.invariant-loop-row
invariant-loop-row l = map row_of l.linked.items ≡ map (row_in l.classes) (take l.row-index l.rows)
