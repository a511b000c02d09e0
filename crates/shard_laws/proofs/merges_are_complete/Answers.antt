use Rattle.shard_laws.proofs.Complete.{merges_are_complete}
use Rattle.shard_laws.proofs.merges_are_complete.Goals as goal

pub returns : goal.returns
returns c =
    merges_are_complete
