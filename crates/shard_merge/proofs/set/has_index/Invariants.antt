use Rattle.std.proofs.Common.{◌≡◌, drop}
use Rattle.shard_rules.specs.Sets.{has_index}
use Rattle.shard_merge.proofs.set.has_index.Given as goal

abbrev pub invariant-loop-head : goal.invariant-loop-head
invariant-loop-head l = has_index l.heads l.index ≡ has_index (drop l.head-index l.heads) l.index
