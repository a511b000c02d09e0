use Rattle.shard_rules.proofs.Heads.{head_codec}
use Rattle.shard_rules.proofs.heads_are_read_as_spelled.Goals as goal

pub returns : goal.returns
returns c = head_codec
