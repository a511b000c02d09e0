use Rattle.shard_rules.proofs.Owners.{one_owner}
use Rattle.shard_rules.proofs.each_has_one_owner.Goals as goal

pub returns : goal.returns
returns c = one_owner
