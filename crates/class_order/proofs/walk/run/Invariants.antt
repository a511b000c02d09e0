use Rattle.class_order.specs.Walks.{IsWalkOf, KeepsMet, to_do}
use Rattle.class_order.proofs.walk.run.Given as goal

abbrev pub invariant-steps : goal.invariant-steps
invariant-steps l = record {
  walk : IsWalkOf l.links l.walk;
  met : KeepsMet l.initial.walk l.walk;
}

abbrev pub decreases-steps : goal.decreases-steps
decreases-steps l = to_do l.links l.walk
