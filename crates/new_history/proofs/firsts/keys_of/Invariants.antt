use Rattle.std.proofs.Common.{◌≡◌, map, take}
use Rattle.new_history.specs.Keys.{key_of}
use Rattle.new_history.proofs.firsts.keys_of.Given as goal

abbrev pub invariant-loop-row : goal.invariant-loop-row
invariant-loop-row l = map (λ k. k.items) l.keys.items ≡ map key_of (take l.row-index l.rows)
