use Rattle.shard_merge.proofs.Reading.{may_be_told}
use Rattle.shard_merge.proofs.file.history_behind.Goals as goal

pub fault_behind-requires : goal.fault_behind-requires
fault_behind-requires c = may_be_told c.faults_are_placed.ensures c.args.profile c.args.rest.now c.in-Err.fault c.in-Err.ensures.read
