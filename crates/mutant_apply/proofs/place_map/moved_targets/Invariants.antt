use Rattle.std.proofs.Common.{◌≡◌, ◌++◌, drop, map}
use Rattle.mutant_apply.specs.Moved.{moved_place}
use Rattle.mutant_apply.proofs.place_map.moved_targets.Given as goal

abbrev pub invariant-loop-target : goal.invariant-loop-target
invariant-loop-target l = l.moved ++ map (moved_place l.by.at l.by.more) (drop l.target-index l.target-items) ≡ map (moved_place l.by.at l.by.more) l.target-items
