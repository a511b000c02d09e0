use Rattle.std.proofs.Common.{slice_get}
use Rattle.class_order.specs.Above.{IsOver, rank_in}
use Rattle.class_order.proofs.above.is_over.Given as goal

abbrev pub invariant-loop-at : goal.invariant-loop-at
invariant-loop-at l = record {
  here : IsOver l.rows l.at l.over → IsOver l.rows l.fn.class l.over;
  there : IsOver l.rows l.fn.class l.over → IsOver l.rows l.at l.over;
}

abbrev pub decreases-loop-at : goal.decreases-loop-at
decreases-loop-at l = rank_in (slice_get l.rows l.at)
