use Rattle.std.proofs.Common.{◌≡◌, ◌++◌, drop, map}
use Rattle.mutant_apply.specs.Moved.{moved_place}
use Rattle.mutant_apply.proofs.place_map.moved_pairs.Given as goal

abbrev pub invariant-loop-key : goal.invariant-loop-key
invariant-loop-key l = l.moved ++ map (λ pair. (pair.0, moved_place l.by.at l.by.more pair.1)) (drop l.key-index l.key-items) ≡ map (λ pair. (pair.0, moved_place l.by.at l.by.more pair.1)) l.key-items
