use Rattle.std.proofs.Common.{[], map, take}
use Rattle.class_link.specs.View.{line_of}
use Rattle.class_link.specs.Lines.{AreStartsOf}
use Rattle.class_link.proofs.line_table.note_starts.Given as goal

abbrev pub invariant-loop-row : goal.invariant-loop-row
invariant-loop-row l = AreStartsOf l.initial.starts [] → AreStartsOf l.starts (map line_of (take l.row-index l.rows))
