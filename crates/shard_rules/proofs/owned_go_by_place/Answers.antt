use Rattle.shard_rules.proofs.Owners.{by_place}
use Rattle.shard_rules.proofs.owned_go_by_place.Goals as goal

pub returns : goal.returns
returns g c = λ i n xs. by_place i n xs
