use Rattle.std.proofs.Common.{map, take}
use Rattle.class_link.specs.View.{frame_of}
use Rattle.type_verifier.specs.Tables.{Adds}
use Rattle.type_verifier.specs.Shapes.{DifferencesLast}
use Rattle.type_verifier.proofs.shapes.differences.Given as goal

abbrev pub invariant-loop-frame : goal.invariant-loop-frame
invariant-loop-frame l =
    Adds l.program l.fn.names l.names
    × DifferencesLast l.names.list.items l.differences.items (map frame_of (take l.frame-index l.frames))
