use Rattle.std.proofs.Common.{length, take}
use Rattle.class_order.specs.Searches.{Finds}
use Rattle.class_order.proofs.search.note_all.Given as goal

abbrev pub invariant-loop-class : goal.invariant-loop-class
invariant-loop-class l = Finds (length l.initial.search.marks.items) l.stamp (take l.class-index l.classes) l.initial.search l.search
