use Rattle.shard_rules.proofs.Files.{shards_are_read}
use Rattle.shard_rules.proofs.shards_are_read_as_spelled.Goals as goal

pub returns : goal.returns
returns c = shards_are_read
