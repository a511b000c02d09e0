use Rattle.std.proofs.Common.{◌≡◌, drop}
use Rattle.class_order.specs.Walks.{all_cyclic}
use Rattle.class_order.proofs.walk.set_cyclic.Given as goal

abbrev pub invariant-loop-class : goal.invariant-loop-class
invariant-loop-class l = all_cyclic l.found (drop l.class-index l.classes) ≡ all_cyclic l.initial.found l.classes
