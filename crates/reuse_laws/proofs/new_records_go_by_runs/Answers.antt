use Rattle.reuse_laws.proofs.Jobs.{old_apart}
use Rattle.reuse_laws.proofs.KnownAlike.{known_alike}
use Rattle.reuse_laws.proofs.new_records_go_by_runs.Goals as goal

pub returns : goal.returns
returns c = record { apart = old_apart; alike = known_alike }
