use Rattle.std.proofs.Common.{◌≡◌, length}
use Rattle.shard_rules.specs.Owners.{owned}
use Rattle.shard_merge.proofs.owner.owned.Given as goal

abbrev pub invariant-loop-item : goal.invariant-loop-item
invariant-loop-item g l = record {
  place : l.place ≡ length l.yielded;
  own : l.own ≡ owned l.index l.of l.yielded;
}
