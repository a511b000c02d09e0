use Rattle.std.proofs.Common.{◌≡◌, ◌<◌, ℕ, length}
use Rattle.class_order.specs.Walks.{IsWalkOf, IsMet}
use Rattle.class_order.proofs.walk.visit_all.Given as goal

abbrev pub invariant-loop-class : goal.invariant-loop-class
invariant-loop-class l = record {
  walk : IsWalkOf l.links l.walk;
  none : length l.walk.stack.items ≡ 0;
  met : (x : ℕ) → x < l.class → IsMet x l.walk;
}
