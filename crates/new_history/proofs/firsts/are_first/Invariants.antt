use Rattle.std.proofs.Common.{map}
use Rattle.new_history.proofs.Picking.{FirstsSoFar}
use Rattle.new_history.proofs.firsts.are_first.Given as goal

abbrev pub invariant-loop-key : goal.invariant-loop-key
invariant-loop-key l = FirstsSoFar (map (λ k. k.items) l.keys) l.key-index l.seen l.firsts.items
