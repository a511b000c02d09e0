use Rattle.std.proofs.Common.{length}
use Rattle.class_order.specs.Searches.{AreMarks, AreRowsTo}
use Rattle.class_order.proofs.above.all_above.Given as goal

abbrev pub invariant-loop-class : goal.invariant-loop-class
invariant-loop-class l = record {
  marks : AreMarks (length l.links) l.class l.search;
  rows : AreRowsTo l.links l.found l.class l.rows.items;
}
