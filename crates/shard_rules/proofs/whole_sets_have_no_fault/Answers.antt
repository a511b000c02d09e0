use Rattle.shard_rules.proofs.Sets.{sets_are_whole, whole_sets_pass}
use Rattle.shard_rules.proofs.whole_sets_have_no_fault.Goals as goal

pub returns : goal.returns
returns c = record { whole = sets_are_whole; pass = whole_sets_pass }
