use Rattle.std.proofs.Common.{◌≡◌, ◌++◌, take}
use Rattle.std.specs.List.{flat_map}
use Rattle.test_discovery.specs.Expected.{said_by_pair}
use Rattle.test_discovery.proofs.expected.push_said_in.Given as goal

abbrev pub invariant-loop-pair : goal.invariant-loop-pair
invariant-loop-pair l = l.said ≡ l.initial.said ++ flat_map (said_by_pair l.pool) (take l.pair-index l.pairs)
