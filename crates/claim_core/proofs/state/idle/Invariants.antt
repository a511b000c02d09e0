use Rattle.std.proofs.Common.{◌≡◌, [], false, map, replicate}
use Rattle.claim_core.specs.Held.{lists_of, drained_of}
use Rattle.claim_core.proofs.state.idle.Given as goal

abbrev pub invariant-loop : goal.invariant-loop
invariant-loop l = (lists_of l.made.items ≡ replicate l.counter []) × (map drained_of l.made.items ≡ replicate l.counter false)
