use Rattle.std.proofs.Common.{◌≡◌, length}
use Rattle.std.specs.Prelude.{All}
use Rattle.suite_workers.specs.Originals.{originals_from}
use Rattle.suite_workers.proofs.originals.workers_for.Given as goal

abbrev pub invariant-loop : goal.invariant-loop
invariant-loop l = (length l.hands.items ≡ l.counter) × All (λ w. w ≡ originals_from l.program l.setup) l.hands.items
