use Rattle.std.proofs.Common.{◌≡◌, take}
use Rattle.std.specs.Prelude.{zip}
use Rattle.suite_workers.specs.Old.{bounds_set}
use Rattle.suite_workers.proofs.look_ups.set_bounds.Given as goal

abbrev pub invariant-loop-at : goal.invariant-loop-at
invariant-loop-at l = l.all ≡ bounds_set l.initial.all (take l.at (zip l.numbers l.bounds))
