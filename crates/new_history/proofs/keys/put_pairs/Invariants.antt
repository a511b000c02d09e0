use Rattle.std.proofs.Common.{◌≡◌, ◌++◌, take}
use Rattle.std.specs.List.{flat_map}
use Rattle.new_history.specs.Keys.{pair_key}
use Rattle.new_history.proofs.keys.put_pairs.Given as goal

abbrev pub invariant-loop-pair : goal.invariant-loop-pair
invariant-loop-pair l = l.key.items ≡ l.fn.key.items ++ flat_map pair_key (take l.pair-index l.pairs)
