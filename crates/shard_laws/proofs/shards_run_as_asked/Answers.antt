use Rattle.shard_laws.proofs.Shard.{shards_run}
use Rattle.shard_laws.proofs.shards_run_as_asked.Goals as goal

pub returns : goal.returns
returns c =
    shards_run c.answers_are_of_all_tests.ensures c.answers_are_as_asked.ensures c.costs_are_as_asked.ensures
