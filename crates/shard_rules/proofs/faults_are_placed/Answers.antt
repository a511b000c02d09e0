use Rattle.shard_rules.proofs.Places.{told_place}
use Rattle.shard_rules.proofs.faults_are_placed.Goals as goal

pub returns : goal.returns
returns c = told_place
