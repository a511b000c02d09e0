use Rattle.shard_laws.proofs.Kept.{go_by_kept}
use Rattle.shard_laws.proofs.merges_go_by_kept.Goals as goal

pub returns : goal.returns
returns c = go_by_kept c.indices_may_leave_out.ensures.enough
